-- What the first line of a section does, and the last one of an unknown section.
use Rattle.std.specs.Prelude.{◌≡◌, ℕ, Result, Ok, Err}
use Rattle.qv_words.specs.declared.op.Answer.{Answer}
use Rattle.qv_cert.specs.Line.{CertLine}
use Rattle.qv_cert.specs.Section.{Task, GoesOn, Accepts, Opening, Closing, opened, at_place}
use Rattle.qv_check_lines.specs.declared.verdict.Verdict.{Verdict}
use Rattle.qv_check_lines.specs.declared.verdict.Verdict.TheVariants.{Accepted}
use Rattle.qv_check_lines.specs.Refusing.{IsRefusal}

-- the section of this answer begins, or is refused
abbrev pub IsOpened : Task → CertLine → ℕ → Result Answer Verdict → Type 0
IsOpened task line number (Ok answer) = at_place task Opening line ≡ GoesOn (opened answer)
IsOpened task line number (Err verdict) = IsRefusal task Opening line number verdict

-- the section is accepted or refused
abbrev pub IsClosed : Task → CertLine → ℕ → Verdict → Type 0
IsClosed task line number (Accepted answer) = at_place task Closing line ≡ Accepts answer
IsClosed task line number verdict = IsRefusal task Closing line number verdict
