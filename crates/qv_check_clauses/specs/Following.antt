-- Where the second way along both texts stands. No public contract cites this.
use Rattle.std.specs.Prelude.{◌≡◌, ℕ, suc, Option, Some, None, List, ◌++◌, Ok}
use Rattle.qv_words.specs.declared.op.Answer.{Answer}
use Rattle.qv_words.specs.Tree.{Tree}
use Rattle.qv_sexpr.specs.Script.{Script as Commands, Tree as Expr, command}
use Rattle.qv_script_defs.specs.State.{State}
use Rattle.qv_script_defs.specs.Moves.{Effect, Check}
use Rattle.qv_script_defs.specs.Commands.{after}
use Rattle.qv_script_stack.specs.Held.{AreAt}
use Rattle.qv_cert.specs.Line.{Header}
use Rattle.qv_cert.specs.Text.{Text, first_line}
use Rattle.qv_cert.specs.CertReader.{with_line}
use Rattle.qv_check_laws.specs.Verdict.{Verdict, verdict_from}
use Rattle.qv_check_defs.specs.Beside.{beside}
use Rattle.qv_check_defs.specs.Outcome.{answer_line, outcome, outcome_of}
use Rattle.qv_check_script.specs.Ending.{status_of}
use Rattle.qv_check_script.specs.declared.ending.Ending.{Ending}
use Rattle.qv_check_script.specs.declared.course.Course.{Course}
use Rattle.qv_check_script.specs.Reading.{IsSilent}
use Rattle.qv_check_script.specs.Turns.{HasStepped, Stands}
use Rattle.qv_check_clauses.specs.Clauses.{clauses_text, text_from}

-- a command was done: it is a check of these formulas, or needs no section
abbrev pub IsDone : State → Expr → Option (List ℕ) → Course → Type 0
IsDone s e (Some ids) c = (now : State) × (trees : List Tree) × HasStepped c s e now (Check trees) × AreAt c.store ids trees
IsDone s e None c = (now : State) × (effect : Effect) × HasStepped c s e now effect × IsSilent effect

-- commands were done up to a check of these formulas: beside a certificate the script is the same from
-- that command on
pub record IsAtCheck (places : ℕ) (s : State) (script : Commands) (ids : List ℕ) (c : Course) (behind : Option Commands) : Type 0 where
  pub state : State
  pub e : Expr
  pub rest : Commands
  pub now : State
  pub trees : List Tree
  pub stepped : HasStepped c state e now (Check trees)
  pub formulas : AreAt c.store ids trees
  pub behind_is : behind ≡ Some rest
  pub same : beside places s script ≡ beside places state (command e rest)

-- commands were done, and the script is the same from here on
pub record IsPast (places : ℕ) (s : State) (script : Commands) (c : Course) (behind : Option Commands) : Type 0 where
  pub state : State
  pub rest : Commands
  pub stands : Stands c state
  pub behind_is : behind ≡ Some rest
  pub same : beside places s script ≡ beside places state rest

-- to a check of these formulas, or to further commands
abbrev pub Leads : (places : ℕ) → State → Commands → Option (List ℕ) → Course → Option Commands → Type 0
Leads places s script (Some ids) c behind = IsAtCheck places s script ids c behind
Leads places s script None c behind = IsPast places s script c behind

-- what comes of both texts from the check-sat of this number on
abbrev pub to_come : (places version number : ℕ) → State → Commands → (given : ℕ) → Text → Verdict (List ℕ)
to_come places version number s script given text = verdict_from version number (beside places s script) (suc given) text.lines text.rest

-- This is to come of both texts: so a check prints this, and this is to be written.
pub record Comes (places version number : ℕ) (script : Option Commands) (c : Course) (given : ℕ) (text : Text) (printed written : List ℕ) : Type 0 where
  pub state : State
  pub commands : Commands
  pub stands : Stands c state
  pub script_is : script ≡ Some commands
  pub prints : (outcome_of (to_come places version number state commands given text)).text ≡ printed
  pub writes : text_from version number (beside places state commands) (to_come places version number state commands given text) ≡ written

-- one more section was written, of this answer
pub record ComesBehind (places version number : ℕ) (script : Option Commands) (c : Course) (given : ℕ) (text : Text) (answer : Answer) (printed written before after : List ℕ) : Type 0 where
  pub part : List ℕ
  pub printed_later : List ℕ
  pub written_later : List ℕ
  pub prints : printed ≡ answer_line answer ++ printed_later
  pub writes : written ≡ part ++ written_later
  pub added : after ≡ before ++ part
  pub comes : Comes places version number script c given text printed_later written_later

-- what was added so far, and what is still to be, are the whole
pub record Between (places version number : ℕ) (script : Option Commands) (c : Course) (given : ℕ) (text : Text) (printed written before now : List ℕ) : Type 0 where
  pub later : List ℕ
  pub comes : Comes places version number script c given text printed later
  pub added : before ++ written ≡ now ++ later

-- a certificate's first line is the header of this version, and the others come behind it
pub record BeginsWithHeader (old : Text) (version : ℕ) (new : Text) : Type 0 where
  pub line : List ℕ
  pub whole : old ≡ with_line line new
  pub header : first_line line ≡ Ok (Header version)

-- how the check ends, and what is written of the certificate
abbrev pub IsListing : (places : ℕ) (script cert : List ℕ) → Ending → (text : List ℕ) → Type 0
IsListing places script cert ending text = (status_of ending ≡ (outcome places script cert).status) × (text ≡ clauses_text places script cert)
