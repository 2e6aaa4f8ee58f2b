-- What a command leads to.
use Rattle.std.specs.Prelude.{◌≡◌, ℕ, ◌≤◌, ◌<◌, Ok, Err, List, [], ◌∷◌, codes}
use Rattle.qv_sexpr.specs.Script.{Tree as Expr}
use Rattle.qv_words.specs.Tree.{Tree}
use Rattle.qv_elab_defs.specs.Tokens.{place_of}
use Rattle.qv_script_defs.specs.Faults.{Fault, refusal, fault_line}
use Rattle.qv_script_defs.specs.State.{State, Last, answered, constants}
use Rattle.qv_script_defs.specs.Texts.{success}
use Rattle.qv_script_defs.specs.Settings.{limit_of}
use Rattle.qv_script_defs.specs.declared.counts.Counts.{Counts}
use Rattle.qv_script_defs.specs.Moves.{Effect, Check, Core, Exit}
use Rattle.qv_script_defs.specs.Commands.{after}
use Rattle.qv_script_transcript.specs.Lawful.{IsLawfulAnswer, answer_line, prefix_length}
use Rattle.qv_script_transcript.specs.Following.{CheckSat, with_answer, Says}
use Rattle.qv_meter.specs.Records.{Limits, Record}
use Rattle.qv_shell_answer.specs.Metered.{AreRecordsOfCore, IsRecordOf, lesser}

-- a command that is followed from a state: the check, if it is one, with its answer, what it prints,
-- and the state behind it
pub data IsFollowed (places : ℕ) (s : State) (e : Expr) : List CheckSat → List ℕ → State → Type 0 where
  says : (now : State) (effect : Effect) (text : List ℕ) →
      after s e ≡ Ok (now, effect) → Says now effect text → IsFollowed places s e [] text now
  checks : (now : State) (formulas : List Tree) (answer : Last) (counts : Counts) →
      after s e ≡ Ok (now, Check formulas) → prefix_length formulas ≤ places → IsLawfulAnswer (constants now) formulas answer →
      IsFollowed places s e (with_answer (limit_of now) formulas answer counts ∷ []) (answer_line answer) (answered answer counts now)

-- a command at which a script ends: what it prints, and the status. It is refused, or the problem of
-- its check has too many places, or it is `exit`.
pub data IsLast (places : ℕ) (s : State) (e : Expr) : List ℕ → ℕ → Type 0 where
  refuses : (fault : Fault) → after s e ≡ Err fault → IsLast places s e (fault_line fault) 1
  exceeds : (now : State) (formulas : List Tree) →
      after s e ≡ Ok (now, Check formulas) → places < prefix_length formulas → IsLast places s e (refusal (place_of e) (codes "prefix limit")) 1
  leaves : (now : State) → after s e ≡ Ok (now, Exit) → IsLast places s e (success now.success) 0

-- what an effect that is said started: the search for a core one record or more, and others none
abbrev pub AreRecordsOfSaid : Limits → (now : State) (effect : Effect) (text : List ℕ) → Says now effect text → List Record → Type 0
AreRecordsOfSaid limits now (Core trees texts) text said records = AreRecordsOfCore (lesser limits (limit_of now)) trees texts said.0 records
AreRecordsOfSaid limits now effect text said records = records ≡ []

-- The records that a command started which is followed: that of a check, and those of the search for a
-- core. Each has no more conflicts than the script leaves it.
abbrev pub AreRecordsBehind : {places : ℕ} {s : State} {e : Expr} {given : List CheckSat} {text : List ℕ} {behind : State} → Limits → IsFollowed places s e given text behind → List Record → Type 0
AreRecordsBehind limits (says now effect text is said) records = AreRecordsOfSaid limits now effect text said records
AreRecordsBehind limits (checks now formulas answer counts is short lawful) records =
    (r : Record) × (records ≡ r ∷ []) × IsRecordOf (lesser limits (limit_of now)) (with_answer (limit_of now) formulas answer counts) r
