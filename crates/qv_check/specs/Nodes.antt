-- What a line among the nodes of a section does.
use Rattle.std.specs.Prelude.{◌≡◌, ℕ, suc, ◌==◌, Bool, true, false, Option, Some, None, Result, Ok, Err}
use Rattle.qv_words.specs.declared.op.Answer.{Answer}
use Rattle.qv_cert.specs.Line.{CertLine, Rewrite, Lrat}
use Rattle.qv_cert.specs.Text.{Text}
use Rattle.qv_cert.specs.Listed.{Listed}
use Rattle.qv_cert.specs.Section.{Task, State, GoesOn, Listing, at_place}
use Rattle.qv_check_lines.specs.declared.verdict.Verdict.{Verdict}
use Rattle.qv_check_lines.specs.declared.lines.Numbered.{Numbered}
use Rattle.qv_check_lines.specs.Judging.{ComesTo, IsNextLine}
use Rattle.qv_check_lines.specs.Refusing.{IsRefusal}

-- a pass or the refutation comes behind the nodes
abbrev pub ends_nodes : CertLine → Bool
ends_nodes Lrat = true
ends_nodes (Rewrite p) = true
ends_nodes line = false

-- a certificate of this version may have the line
abbrev pub fits_version : ℕ → CertLine → Bool
fits_version version (Rewrite p) = version == 2
fits_version version line = true

-- the line is listed, or the section ends
abbrev pub IsGiven : Task → Answer → Listed → CertLine → ℕ → Result (Unit {0}) Verdict → Listed → Type 0
IsGiven task answer old line number (Ok done) new = at_place task (Listing answer old) line ≡ GoesOn (Listing answer new)
IsGiven task answer old line number (Err verdict) new = IsRefusal task (Listing answer old) line number verdict

-- what comes from the line of a later state on comes from the earlier state on
pub record LeadsAlong (task : Task) (s : State) (given : ℕ) (old : Option Text) (t : State) (next : Numbered) (new : Option Text) : Type 0 where
  pub before : Option Text
  pub behind : ℕ
  pub number_is : next.number ≡ suc behind
  pub next_is : IsNextLine false before next.line new
  pub leads : ComesTo task s given old t behind before

-- the later state's line was read, or none
abbrev pub LeadsOn : Task → State → ℕ → Option Text → State → ℕ → Option Text → Option Numbered → Type 0
LeadsOn task s given old t later new None = ComesTo task s given old t later new
LeadsOn task s given old t later new (Some next) = LeadsAlong task s given old t next new
