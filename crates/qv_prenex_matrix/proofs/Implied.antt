-- The left side of an implication.
use Rattle.std.proofs.Common.{ℕ, ◌<◌, Bool, List, length, sym, subst}
use Rattle.qv_words.specs.Tree.{Tree}
use Rattle.qv_words.specs.Sorted.{IsSorted, no_levels}
use Rattle.qv_words.specs.Prenex.{negation}
use Rattle.qv_store.specs.Nodes.{tree_at}
use Rattle.qv_store.specs.Stores.{AreShared}
use Rattle.qv_prenex_laws.specs.RuleLaws.{rule_at}
use Rattle.qv_prenex_splits.proofs.Fitting.{AreSortedParts, parts-sorted}
use Rattle.qv_prenex_matrix.specs.Finding.{IsImplied}

-- the negation of an implication's left side is sorted
pub implied-sorted : (trees : List Tree) (plus : Bool) (id a b : ℕ) → AreShared trees → id < length trees → IsImplied trees plus (rule_at plus (tree_at trees id)) a b → IsSorted (negation (tree_at trees a))
implied-sorted trees plus id a b shared low h =
    (subst (AreSortedParts no_levels) (sym h.is) (parts-sorted no_levels plus (tree_at trees id) (shared.sorted id low))).0
