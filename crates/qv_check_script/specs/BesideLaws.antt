-- What the answers say that are accepted beside a script.
use Rattle.std.specs.Prelude.{ℕ, List, [], ◌∷◌, Ok, Err}
use Rattle.qv_words.specs.declared.op.Answer.{Answer}
use Rattle.qv_words.specs.declared.op.Answer.TheVariants as answer
use Rattle.qv_words.specs.Tree.{Tree}
use Rattle.qv_words.specs.Truth.{AreTrue}
use Rattle.qv_sexpr.specs.Script.{Script as Commands, stops, command, reads}
use Rattle.qv_script_defs.specs.State.{State, opening, answered, no_counts}
use Rattle.qv_script_defs.specs.Moves.{Quiet, Text, Check, Values, Whole, Core, Exit, Move}
use Rattle.qv_script_defs.specs.Commands.{after}
use Rattle.qv_check_laws.specs.Verdict.{answers_of, verdict}
use Rattle.qv_check_defs.specs.Beside.{beside, last_of}

-- what an answer says of the trees in force
abbrev pub IsTrueAnswer : List Tree → Answer → Type 0
IsTrueAnswer trees answer.Sat = AreTrue trees
IsTrueAnswer trees answer.Unsat = AreTrue trees → ⊥
IsTrueAnswer trees answer.Unknown = Unit {0}

-- behind a command
abbrev pub AreTrueBehind : (State → List Answer → Type 0) → Move → Answer → List Answer → Type 0
AreTrueBehind goes_on (Err fault) a answers = ⊥
AreTrueBehind goes_on (Ok (s, Exit)) a answers = ⊥
AreTrueBehind goes_on (Ok (s, Check trees)) a answers = IsTrueAnswer trees a × goes_on (answered (last_of s a) no_counts s) answers
AreTrueBehind goes_on (Ok (s, Quiet)) a answers = goes_on s (a ∷ answers)
AreTrueBehind goes_on (Ok (s, Text words)) a answers = goes_on s (a ∷ answers)
AreTrueBehind goes_on (Ok (s, Values terms)) a answers = goes_on s (a ∷ answers)
AreTrueBehind goes_on (Ok (s, Whole)) a answers = goes_on s (a ∷ answers)
AreTrueBehind goes_on (Ok (s, Core trees named)) a answers = goes_on s (a ∷ answers)

-- each answer is true of the trees in force at its check, where the checks before it have the
-- answers before it
abbrev pub AreTrueAnswers : State → Commands → List Answer → Type 0
AreTrueAnswers s script [] = Unit {0}
AreTrueAnswers s (stops end) (a ∷ answers) = ⊥
AreTrueAnswers s (command e rest) (a ∷ answers) = AreTrueBehind (λ t later. AreTrueAnswers t rest later) (after s e) a answers

-- so are the answers that this certificate's verdict accepts beside a script
abbrev pub AnswersHold : (places : ℕ) (script cert : List ℕ) → Type 0
AnswersHold places script cert = AreTrueAnswers opening (reads script) (answers_of (verdict (beside places opening (reads script)) cert))

-- of any certificate
abbrev pub AnswersAreTrue : Type 0
AnswersAreTrue = (places : ℕ) (script cert : List ℕ) → AnswersHold places script cert
