use Rattle.std.proofs.Common.{◌≡◌, ℕ, ◌<◌, get_or, length}
use Rattle.qv_words.specs.declared.word.Word.{Word}
use Rattle.qv_terms.specs.declared.term.Term.{Term}
use Rattle.qv_terms.specs.View.{tree}
use Rattle.qv_terms.proofs.Evaluating.{IsValue}
use Rattle.qv_terms.proofs.evaluate.+eval.Given as goal

-- the words so far are the values of the arguments so far
abbrev pub invariant-eval_application-loop-i : goal.invariant-eval_application-loop-i
invariant-eval_application-loop-i l =
    (length l.words ≡ 3) × ((k : ℕ) (d : Term) (v : Word) → k < l.i → IsValue l.values.consts.items l.values.levels.items (tree (get_or l.args k d)) (get_or l.words k v))
