-- What a line of a refutation does.
use Rattle.std.specs.Prelude.{◌≡◌, ℕ, Bool, true, false, Result, Ok, Err}
use Rattle.qv_words.specs.declared.op.Answer.{Answer}
use Rattle.qv_cnf.specs.Refutation.{Standing}
use Rattle.qv_rup.specs.declared.faults.StepFault.{StepFault}
use Rattle.qv_rup.specs.declared.faults.StepFault.TheVariants as fault
use Rattle.qv_cert.specs.declared.kind.RefusalKind.TheVariants as kind
use Rattle.qv_cert.specs.Line.{CertLine}
use Rattle.qv_cert.specs.Section.{Task, GoesOn, Accepts, Refuses, Refuting, at_place}
use Rattle.qv_check_lines.specs.declared.verdict.Verdict.{Verdict}
use Rattle.qv_check_lines.specs.declared.verdict.Verdict.TheVariants.{Accepted, Refused, PrefixLimit, ReadFault, ReadLimit, NoMemory}

-- the section goes on, is accepted, or is refused at this number; memory may run out
abbrev pub IsTaken : Task → Answer → Standing → CertLine → ℕ → Result Bool Verdict → Standing → Type 0
IsTaken task answer old line number (Ok true) new = at_place task (Refuting answer old) line ≡ GoesOn (Refuting answer new)
IsTaken task answer old line number (Ok false) new = at_place task (Refuting answer old) line ≡ Accepts answer
IsTaken task answer old line number (Err (Refused n k)) new = (n ≡ number) × (at_place task (Refuting answer old) line ≡ Refuses k)
IsTaken task answer old line number (Err (Accepted a)) new = ⊥
IsTaken task answer old line number (Err PrefixLimit) new = ⊥
IsTaken task answer old line number (Err ReadFault) new = ⊥
IsTaken task answer old line number (Err ReadLimit) new = ⊥
IsTaken task answer old line number (Err NoMemory) new = Unit {0}

-- what becomes of a step's fault
abbrev pub refusal_of : ℕ → StepFault → Verdict
refusal_of number fault.Order = Refused number kind.Id
refusal_of number (fault.Rat hint) = Refused number (kind.Rat hint)
refusal_of number (fault.Hint hint) = Refused number (kind.Hint hint)
refusal_of number fault.Open = Refused number kind.Open
refusal_of number fault.NoMemory = NoMemory
