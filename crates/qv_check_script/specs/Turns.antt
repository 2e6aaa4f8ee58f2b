-- What stands between two commands of a script and two sections of its certificate. Public contracts
-- cite `Heads`, `Ends`, `EndsBy`, `StopsWanting` and what these name.
use Rattle.std.specs.Prelude.{◌≡◌, ◌≢◌, ◌<◌, ℕ, suc, Option, Some, None, option_map, IfSome, IsSomeAnd, List, [], ◌∷◌, ◌++◌, flat_map, Ok}
use Rattle.std.specs.Option.{option_and_then}
use Rattle.qv_io.specs.Sink.{Appends}
use Rattle.qv_text.specs.Progress.{Progress}
use Rattle.qv_words.specs.declared.op.Answer.{Answer}
use Rattle.qv_words.specs.declared.word.Word.{Word}
use Rattle.qv_words.specs.Word.{word_sort, word_value}
use Rattle.qv_sexpr.specs.Script.{Script as Commands}
use Rattle.qv_sexpr.specs.Script.{Tree as Expr, command as stands}
use Rattle.qv_sexpr.specs.declared.answers.Stop.{Stop}
use Rattle.qv_elab_defs.specs.Written.{HasTokens}
use Rattle.qv_script_stack.specs.declared.held.Declared.{Declared}
use Rattle.qv_script_defs.specs.State.{State}
use Rattle.qv_script_defs.specs.StateLaws.{IsReached}
use Rattle.qv_script_stack.specs.Held.{IsScriptIn}
use Rattle.qv_script_defs.specs.Moves.{Effect}
use Rattle.qv_script_defs.specs.Commands.{after}
use Rattle.qv_cert.specs.declared.kind.RefusalKind.{RefusalKind}
use Rattle.qv_cert.specs.Text.{Text}
use Rattle.qv_cert.specs.CertReader.{Position}
use Rattle.qv_check_lines.specs.Ending.{StopsAtLimit}
use Rattle.qv_check_laws.specs.Verdict.{Script, Verdict, IsRefused, ended, verdict_from, verdict}
use Rattle.qv_check_script.specs.declared.ending.Ending.{Ending}
use Rattle.qv_check_script.specs.declared.ending.Ending.TheVariants.{Accepted, Faulty, Refused}
use Rattle.qv_check_script.specs.declared.turns.Turn.{Turn}
use Rattle.qv_check_script.specs.declared.turns.Turn.TheVariants.{Goes, Ended}
use Rattle.qv_check_script.specs.declared.course.Course.{Course}
use Rattle.qv_sexpr.specs.Script.{reads}
use Rattle.qv_script_defs.specs.State.{opening}
use Rattle.qv_check_defs.specs.Beside.{beside}
use Rattle.qv_check_defs.specs.Outcome.{Outcome, outcome_of, answer_line, refused_line}
use Rattle.qv_check_script.specs.Reading.{IsPassed, HasPassed, ShowsEnding}
use Rattle.qv_check_script.specs.Ending.{status_of}
use Rattle.qv_check_script.specs.Wanting.{last_line}

-- what is held in a store stands for a state that commands and answers led to
pub record Stands (c : Course) (s : State) : Type 0 where
  pub script : IsScriptIn c.store c.script s
  pub reached : IsReached s

-- an expression led from a state to another, with this effect, and what is held stands for that
pub record HasStepped (c : Course) (s : State) (e : Expr) (now : State) (effect : Effect) : Type 0 where
  pub reached : IsReached s
  pub tokens : HasTokens e
  pub gives : after s e ≡ Ok (now, effect)
  pub stands : Stands c now

-- the value 0 for each constant
abbrev pub AreZeros : List Declared → List Word → Type 0
AreZeros [] [] = Unit {0}
AreZeros (own ∷ owns) (w ∷ ws) = (word_sort w ≡ own.sort) × (word_value w ≡ 0) × AreZeros owns ws
AreZeros _ _ = ⊥

-- what comes, and the last line of the certificate that it needs
pub record Coming : Type 0 where
  pub outcome : Outcome
  pub last : ℕ

-- of a verdict whose sections begin behind so many lines
abbrev pub coming_of : ℕ → Verdict (List ℕ) → Coming
coming_of given v = record { outcome = outcome_of v; last = last_line given v }

-- a text before what comes
abbrev pub with_front : List ℕ → Coming → Coming
with_front text o = record { outcome = record { text = text ++ o.outcome.text; status = o.outcome.status }; last = o.last }

-- what is still to come of both texts, where both are told: from a state on, behind so many
-- sections and so many lines of a certificate of this version
abbrev pub to_come : (places : ℕ) (version checks : ℕ) → State → Option Commands → (given : ℕ) → Option Text → Option Coming
to_come places version checks s script given text =
    option_and_then
    (λ c. option_map (λ t. coming_of given (verdict_from version (suc checks) (beside places s c) (suc given) t.lines t.rest)) text)
    script

-- what comes of both texts, where both are told
abbrev pub told : (places : ℕ) (script cert : Option (List ℕ)) → Option Coming
told places script cert = option_and_then (λ text. option_map (λ bytes. coming_of 1 (verdict (beside places opening (reads text)) bytes)) cert) script

-- A reader of certificates stopped at the limit, and what is to come needs a further line.
pub record StopsWanting {S : Type 0} (call : S → ℕ → Option (List ℕ) → S → Type 0) (left : S → Option (List ℕ)) (old : Position) (source : S) (new : Position) (later : S) (coming : Option Coming) : Type 0 where
  pub took : StopsAtLimit call left old source new later
  pub wanted : IfSome coming (λ o. new.given < o.last)

-- So much was written, and what is to come is the rest of the whole.
pub record Between (places : ℕ) (whole : Option Coming) (version given : ℕ) (c : Course) (script : Option Commands) (text : Option Text) (held held' : Option (List ℕ)) : Type 0 where
  pub answers : List Answer
  pub appends : Appends held held' (flat_map answer_line answers)
  pub state : State
  pub stands : Stands c state
  pub leads : whole ≡ option_map (with_front (flat_map answer_line answers)) (to_come places version c.checks state script given text)

-- and these commands were read from a state on, which led to that one
pub record BetweenCommands (places : ℕ) {S : Type 0} (call : S → ℕ → Option (List ℕ) → S → Type 0) (start : State) (lexer : Progress) (source : S) (read : Option Commands) (old : Progress) (now : S) (whole : Option Coming) (version given : ℕ) (c : Course) (script : Option Commands) (text : Option Text) (held held' : Option (List ℕ)) : Type 0 where
  pub between : Between places whole version given c script text held held'
  pub passed : HasPassed places call start lexer source read between.answers old now script between.state

-- a turn that ends the check so
abbrev pub Ends : Outcome → Turn → Type 0
Ends o (Goes text) = ⊥
Ends o (Ended text ending) = o ≡ record { text = text.items; status = status_of ending }

-- one that ends it by such an ending
abbrev pub EndsBy : (Ending → Type 0) → Turn → Type 0
EndsBy P (Goes text) = ⊥
EndsBy P (Ended text ending) = P ending

-- the script has no fault
abbrev pub IsOver : Ending → Type 0
IsOver Accepted = Unit {0}
IsOver Faulty = ⊥
IsOver Refused = Unit {0}

-- one behind which it goes on
abbrev pub GoesOn : Turn → Type 0
GoesOn (Goes text) = Unit {0}
GoesOn (Ended text ending) = ⊥

-- a command was read and passed, with this text and into this state
abbrev pub GoesPast : (places : ℕ) → State → (old new : Option Commands) → Option Stop → (text : List ℕ) → State → Type 0
GoesPast places s old new None text t = (e : Expr) × (more : List Answer) × IsPassed places s e more t × (old ≡ option_map (stands e) new) × (text ≡ flat_map answer_line more)
GoesPast places s old new (Some stop) text t = ⊥

-- From what is to come before a turn, it leads to what is to come behind it, by the state in which
-- the script is then, behind the command that was read; or it ends the check.
abbrev pub TurnsTo : (places : ℕ) → Turn → Course → State → (old new : Option Commands) → Option Stop → (before : Option Coming) → (behind : State → Option Coming) → Type 0
TurnsTo places (Goes text) c s old new stop before behind =
    (t : State) × Stands c t × GoesPast places s old new stop text.items t × (before ≡ option_map (with_front text.items) (behind t))
TurnsTo places (Ended text ending) c s old new stop before behind = ShowsEnding places s old stop ending × IfSome before (λ o. o.outcome ≡ record { text = text.items; status = status_of ending })

-- The first line of a certificate with these bytes: it is a header of this version, and this is
-- still to be given; or this line refuses it.
abbrev pub Heads : Option (List ℕ) → (bytes : List ℕ) → (version : ℕ) → Option Text → Type 0
Heads None bytes version text =
    IsSomeAnd text (λ t. (script : Script (List ℕ)) → verdict script bytes ≡ verdict_from version 1 script 2 t.lines t.rest)
Heads (Some line) bytes version text =
    (k : RefusalKind) × (line ≡ refused_line 1 k) × ((script : Script (List ℕ)) → verdict script bytes ≡ ended (IsRefused 1 k))

-- the front of what comes was written
abbrev pub Cut : (held held' : Option (List ℕ)) → Coming → Type 0
Cut held held' o = (written rest : List ℕ) × (o.outcome.text ≡ written ++ rest) × Appends held held' written

-- the front of it was written, and not all
abbrev pub Short : (held held' : Option (List ℕ)) → Coming → Type 0
Short held held' o = (written rest : List ℕ) × (o.outcome.text ≡ written ++ rest) × (rest ≢ []) × Appends held held' written

-- all of it was, and this is its status
abbrev pub Done : (held held' : Option (List ℕ)) → (status : ℕ) → Coming → Type 0
Done held held' status o = (status ≡ o.outcome.status) × Appends held held' o.outcome.text

-- what is written at a turn, and the end of the check, if it ends there
abbrev pub said : Turn → List ℕ
said (Goes text) = text.items
said (Ended text ending) = text.items

abbrev pub ending_of : Turn → Option Ending
ending_of (Goes text) = None
ending_of (Ended text ending) = Some ending
