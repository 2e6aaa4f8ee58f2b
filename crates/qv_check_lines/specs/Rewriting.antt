-- What a line behind the nodes of a section does.
use Rattle.std.specs.Prelude.{◌≡◌, ℕ, Option, Some, None, Result, Ok, Err, List}
use Rattle.qv_words.specs.declared.op.Answer.{Answer}
use Rattle.qv_words.specs.Tree.{Tree}
use Rattle.qv_cnf.specs.Refutation.{Standing}
use Rattle.qv_cert.specs.Line.{CertLine}
use Rattle.qv_cert.specs.Section.{Task, State, GoesOn, Rewriting, Refuting, at_place}
use Rattle.qv_check_lines.specs.declared.verdict.Verdict.{Verdict}
use Rattle.qv_check_lines.specs.Refusing.{IsRefusal}

-- the refutation follows where there is a checker, else further lines of this kind
abbrev pub state_with : Answer → Option Standing → List Tree → State
state_with answer None formulas = Rewriting answer formulas
state_with answer (Some checker) formulas = Refuting answer checker

-- from this state the section goes on with these formulas or this checker, or ends
abbrev pub IsLed : Task → State → Answer → CertLine → ℕ → Result (Option Standing) Verdict → List Tree → Type 0
IsLed task s answer line number (Ok found) new = at_place task s line ≡ GoesOn (state_with answer found new)
IsLed task s answer line number (Err verdict) new = IsRefusal task s line number verdict
