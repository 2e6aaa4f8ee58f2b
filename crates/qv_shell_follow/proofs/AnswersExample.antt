-- A check that is answered `unsat`, and the end of the text: its answer stands whole in six bytes.
use Rattle.std.proofs.Common.{ℕ, ◌≡◌, ◌≤◌, List, [], ◌∷◌, Ok, refl}
use Rattle.qv_sexpr.specs.Script.{all_read}
use Rattle.qv_sexpr.specs.Script.{Tree as Expr, command as stands, stops as halt}
use Rattle.qv_words.specs.Tree.{Tree}
use Rattle.qv_script_defs.specs.State.{State, Unsat, answered, no_counts, constants}
use Rattle.qv_script_defs.specs.Settings.{limit_of}
use Rattle.qv_script_defs.specs.Moves.{Check}
use Rattle.qv_script_defs.specs.Commands.{after}
use Rattle.qv_script_transcript.specs.Lawful.{IsLawfulAnswer, answer_line, prefix_length}
use Rattle.qv_script_transcript.specs.Following.{Follows, stops, checks, with_answer, piece}
use Rattle.qv_shell_follow.specs.Answers.{answers_within}

module _ (places : ℕ) (s now : State) (e : Expr) (formulas : List Tree) (is : after s e ≡ Ok (now, Check formulas)) (short : prefix_length formulas ≤ places) (lawful : IsLawfulAnswer (constants now) formulas Unsat) where
  abbrev told : Follows places s (stands e (halt all_read)) (with_answer (limit_of now) formulas Unsat no_counts ∷ []) (piece e (answer_line Unsat) ∷ []) [] 0
  told = checks s now e (halt all_read) formulas Unsat no_counts [] [] [] 0 is short lawful (stops (answered Unsat no_counts now) all_read)

  none-in-five : answers_within told 5 ≡ 0
  unfolding answers_within
  none-in-five = refl

  one-in-six : answers_within told 6 ≡ 1
  unfolding answers_within
  one-in-six = refl
