-- What a line does that ends a section before its end.
use Rattle.std.specs.Prelude.{◌≡◌, ℕ}
use Rattle.qv_cert.specs.Line.{CertLine}
use Rattle.qv_cert.specs.Section.{Task, State, Refuses, at_place}
use Rattle.qv_check_lines.specs.declared.verdict.Verdict.{Verdict}
use Rattle.qv_check_lines.specs.declared.verdict.Verdict.TheVariants.{Accepted, Refused, PrefixLimit, ReadFault, ReadLimit, NoMemory}

-- the section is refused at this line's number, or memory ran out
abbrev pub IsRefusal : Task → State → CertLine → ℕ → Verdict → Type 0
IsRefusal task s line number (Refused n k) = (n ≡ number) × (at_place task s line ≡ Refuses k)
IsRefusal task s line number (Accepted a) = ⊥
IsRefusal task s line number PrefixLimit = ⊥
IsRefusal task s line number ReadFault = ⊥
IsRefusal task s line number ReadLimit = ⊥
IsRefusal task s line number NoMemory = Unit {0}
