use Rattle.std.proofs.Common.{◌≡◌, ℕ, ◌<◌, Some, get_or, length}
use Rattle.qv_words.specs.declared.sort.Sort.TheVariants.{Bool}
use Rattle.qv_words.specs.Tree.{tree_sort}
use Rattle.qv_terms.specs.declared.term.Term.{Term}
use Rattle.qv_terms.specs.View.{tree}
use Rattle.qv_terms.proofs.sorts.+sort.Given as goal

-- the sorts so far are those of the arguments so far
abbrev pub invariant-application_sort-loop-i : goal.invariant-application_sort-loop-i
invariant-application_sort-loop-i l =
    (length l.sorts ≡ 3) × ((k : ℕ) (d : Term) → k < l.i → tree_sort (tree (get_or l.args k d)) ≡ Some (get_or l.sorts k Bool))
