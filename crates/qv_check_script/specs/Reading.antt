-- What the check of a certificate does to its script: it reads one command after another, and nothing
-- behind the answer that ends it.
use Rattle.std.specs.Prelude.{◌≡◌, ◌≤◌, ◌<◌, ◌⊎◌, ℕ, false, Option, Some, None, IfSome, IsSome, IsSomeAnd, option_map, List, [], ◌∷◌, ◌++◌, flat_map, length, Ok, Err}
use Rattle.qv_io.specs.Sink.{Appends}
use Rattle.qv_text.specs.Progress.{Progress}
use Rattle.qv_words.specs.declared.op.Answer.{Answer}
use Rattle.qv_words.specs.Tree.{Tree}
use Rattle.qv_words.specs.Problem.{problem_of}
use Rattle.qv_sexpr.specs.declared.answers.Stop.{Stop}
use Rattle.qv_sexpr.specs.declared.answers.Stop.TheVariants.{ReadFault, ReadLimit}
use Rattle.qv_sexpr.specs.Script.{Script as Commands, all_read, reads}
use Rattle.qv_sexpr.specs.Script.{Tree as Expr, command as stands, stops as halts}
use Rattle.qv_sexpr.specs.Reader.{text_end}
use Rattle.qv_sexpr.specs.Calls.{ReadsOnDemand}
use Rattle.qv_script_defs.specs.Faults.{Fault}
use Rattle.qv_script_defs.specs.State.{State, opening, answered, no_counts}
use Rattle.qv_script_defs.specs.Moves.{Effect, Quiet, Text, Check, Values, Whole, Core, Exit}
use Rattle.qv_script_defs.specs.Commands.{after}
use Rattle.qv_script_texts.specs.EndLines.{fault_at_end}
use Rattle.qv_check_script.specs.declared.ending.Ending.{Ending}
use Rattle.qv_check_script.specs.declared.ending.Ending.TheVariants.{Accepted, Faulty, Refused}
use Rattle.qv_check_defs.specs.Beside.{last_of}
use Rattle.qv_check_script.specs.Ending.{status_of}
use Rattle.qv_check_defs.specs.Outcome.{answer_line}

-- ---- commands behind which the script goes on

-- an effect that needs no section
abbrev pub IsSilent : Effect → Type 0
IsSilent Quiet = Unit {0}
IsSilent (Text words) = Unit {0}
IsSilent (Values terms) = Unit {0}
IsSilent Whole = Unit {0}
IsSilent (Core trees named) = Unit {0}
IsSilent (Check trees) = ⊥
IsSilent Exit = ⊥

-- a command is passed: the answer of its section, if it is a check whose problem has no more than so
-- many places, and the state behind it
pub data IsPassed (places : ℕ) (s : State) (e : Expr) : List Answer → State → Type 0 where
  silent : (now : State) (effect : Effect) → after s e ≡ Ok (now, effect) → IsSilent effect → IsPassed places s e [] now
  checked : (now : State) (trees : List Tree) (answer : Answer) →
      after s e ≡ Ok (now, Check trees) → length (problem_of trees).prefix ≤ places → IsPassed places s e (answer ∷ []) (answered (last_of now answer) no_counts now)

-- In what follows `call` says what one call makes of the script's source.

-- From a state and a lexer on, commands were read one after another and passed: the answers of their
-- checks, how far the lexer is, what the calls made of the source, what is still to be read where the
-- source tells its bytes, and the state.
pub data HasPassed (places : ℕ) {S : Type 0} (call : S → ℕ → Option (List ℕ) → S → Type 0) (start : State) (lexer : Progress) (source : S) (script : Option Commands) : List Answer → Progress → S → Option Commands → State → Type 0 where
  at_start : HasPassed places call start lexer source script [] lexer source script start
  one_command : (before : List Answer) (old : Progress) (now : S) (s : State) (e : Expr) (more : List Answer) (new : Progress) (later : S) (rest : Option Commands) (t : State) →
      HasPassed places call start lexer source script before old now (option_map (stands e) rest) s →
      IsPassed places s e more t → ReadsOnDemand call old now None new later →
      HasPassed places call start lexer source script (before ++ more) new later rest t

-- ---- the last answer of the reader: a command, or why it stopped

-- the command comes next, where the script is told
abbrev pub ComesNext : Expr → Option Commands → Type 0
ComesNext e script = IfSome script (λ s. (rest : Commands) × (s ≡ stands e rest))

-- it is `exit`, or the end of the text
abbrev pub ShowsEnd : State → Option Commands → Option Stop → Type 0
ShowsEnd s script None = (e : Expr) × (now : State) × (after s e ≡ Ok (now, Exit)) × ComesNext e script
ShowsEnd s script (Some stop) = (text_end stop ≡ Some all_read) × IfSome script (λ c. c ≡ halts all_read)

-- it is a command that is refused or whose problem has more than so many places, or a fault of the text
abbrev pub ShowsFault : (places : ℕ) → State → Option Commands → Option Stop → Type 0
ShowsFault places s script None =
    (e : Expr) × ComesNext e script × (((fault : Fault) × (after s e ≡ Err fault)) ⊎ ((now : State) × (trees : List Tree) × (after s e ≡ Ok (now, Check trees)) × (places < length (problem_of trees).prefix)))
ShowsFault places s script (Some stop) = IsSomeAnd (text_end stop) (λ end. IsSome (fault_at_end end) × IfSome script (λ c. c ≡ halts end))

-- it is a check
abbrev pub ShowsCheck : State → Option Commands → Option Stop → Type 0
ShowsCheck s script None = (e : Expr) × (now : State) × (trees : List Tree) × (after s e ≡ Ok (now, Check trees)) × ComesNext e script
ShowsCheck s script (Some stop) = ⊥

-- where the check ends so: a line of the certificate is refused in the section of a check, or behind
-- the last one
abbrev pub ShowsEnding : (places : ℕ) → State → Option Commands → Option Stop → Ending → Type 0
ShowsEnding places s script stop Accepted = ShowsEnd s script stop
ShowsEnding places s script stop Faulty = ShowsFault places s script stop
ShowsEnding places s script stop Refused = ShowsCheck s script stop ⊎ ShowsEnd s script stop

-- the source gave no more, though the lexer wanted it
abbrev pub IsUnread : Option Stop → Type 0
IsUnread stop = (stop ≡ Some ReadFault) ⊎ (stop ≡ Some ReadLimit)

-- where the check ends with this status; `cert_unread` says that the certificate's source gave no more
pub record EndsAt (places : ℕ) (cert_unread : Type 0) (s : State) (script : Option Commands) (stop : Option Stop) (status : ℕ) : Type 0 where
  pub ended : (ending : Ending) → status ≡ status_of ending → ShowsEnding places s script stop ending
  pub unread : status ≡ 3 → IsUnread stop ⊎ cert_unread
  pub read : IsUnread stop → status ≡ 3

-- ---- a whole check

-- Commands were read and passed, and the answers of their sections were written; then came the last
-- answer of the reader, of which a part was written, and nothing was read behind it.
pub record ReadsFrom (places : ℕ) {S : Type 0} (call : S → ℕ → Option (List ℕ) → S → Type 0) (cert_unread : Type 0) (start : State) (lexer : Progress) (source : S) (script : Option Commands) (held held' : Option (List ℕ)) (status : ℕ) (source' : S) : Type 0 where
  pub answers : List Answer
  pub part : List ℕ
  pub prints : Appends held held' (flat_map answer_line answers ++ part)
  pub old : Progress
  pub now : S
  pub still : Option Commands
  pub state : State
  pub passed : HasPassed places call start lexer source script answers old now still state
  pub stop : Option Stop
  pub new : Progress
  pub last : ReadsOnDemand call old now stop new source'
  pub ends : EndsAt places cert_unread state still stop status

-- a lexer that was fed nothing
abbrev pub unfed : Progress
unfed = record { place = 0; rest = []; finished = false; last = None }

-- The script, of which these bytes are left, is read from its start; or nothing of it is, where the
-- certificate's first line is refused or isn't read, or memory runs out before.
abbrev pub ReadsBeside : (places : ℕ) {S : Type 0} → (S → ℕ → Option (List ℕ) → S → Type 0) → (cert_unread : Type 0) → S → (left held held' : Option (List ℕ)) → (status : ℕ) → S → Type 0
ReadsBeside places call cert_unread source left held held' status source' =
    ((source' ≡ source) × (3 ≤ status)) ⊎ ReadsFrom places call cert_unread opening unfed source (option_map reads left) held held' status source'
