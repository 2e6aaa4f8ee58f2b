-- What is written of an accepted section. No public contract cites this.
use Rattle.std.specs.Prelude.{◌≡◌, ℕ, suc, ◌-◌, Some, List, [], ◌++◌, length, take}
use Rattle.qv_words.specs.declared.op.Answer.{Answer}
use Rattle.qv_words.specs.declared.op.Answer.TheVariants.{Sat, Unsat, Unknown}
use Rattle.qv_cert.specs.Text.{Text}
use Rattle.qv_cert.specs.Section.{Task, State, AcceptedUpTo, opened, section_judged}
use Rattle.qv_check_lines.specs.declared.verdict.Verdict.TheVariants.{Accepted}
use Rattle.qv_check_lines.specs.Judging.{IsVerdictFrom}
use Rattle.qv_check_lines.specs.Refuted.{refuted_from}
use Rattle.qv_check_clauses.specs.Clauses.{dimacs_text, section_text}

-- from a state on a section of this answer was accepted, and the clauses that come to be refuted were
-- added to a text
pub record AddsRefuted (task : Task) (s : State) (answer : Answer) (given : ℕ) (old : Text) (later : ℕ) (new : Text) (before after : List ℕ) : Type 0 where
  pub verdict : IsVerdictFrom task s given (Some old) later (Some new) (Accepted answer)
  pub added : after ≡ before ++ dimacs_text (refuted_from task s old.lines)

-- what is written of lines behind the `check` line of this answer
abbrev pub text_behind : Task → Answer → List (List ℕ) → List ℕ
text_behind task Sat lines = dimacs_text (refuted_from task (opened Sat) lines)
text_behind task Unsat lines = dimacs_text (refuted_from task (opened Unsat) lines)
text_behind task Unknown lines = []

-- a section was accepted behind that line, and this was added
pub record AddsAnswered (task : Task) (answer : Answer) (given : ℕ) (old : Text) (later : ℕ) (new : Text) (before after : List ℕ) : Type 0 where
  pub verdict : IsVerdictFrom task (opened answer) given (Some old) later (Some new) (Accepted answer)
  pub added : after ≡ before ++ text_behind task answer old.lines

-- a section was accepted, behind so many lines, and what is written of it was added
pub record AddsSection (task : Task) (answer : Answer) (given : ℕ) (old : Text) (later : ℕ) (new : Text) (before after : List ℕ) : Type 0 where
  pub judged : section_judged task (suc given) old.lines ≡ AcceptedUpTo answer (suc later) new.lines
  pub rest : new.rest ≡ old.rest
  pub added : after ≡ before ++ section_text task (record { answer = answer; lines = take (length old.lines - length new.lines) old.lines })
