-- the factors that are left out at the front aren't in order yet
use Rattle.std.proofs.Common.{◌≡◌, ◌≤◌, ◌<◌, length, drop, map}
use Rattle.std.specs.Prelude.{All}
use Rattle.qv_words.specs.Sums.{comes_before, in_order}
use Rattle.qv_store.specs.Nodes.{tree_at}
use Rattle.qv_rewrite_sums.proofs.ordering.terms_in_order.Given as goal

abbrev pub invariant-left : goal.invariant-left
invariant-left l = record {
  within : l.left ≤ length l.factors;
  order : map (tree_at l.store) l.ordered.items ≡ in_order comes_before (map (tree_at l.store) (drop l.left l.factors));
  below : All (λ id. id < length l.store) l.ordered.items;
}

abbrev pub decreases-left : goal.decreases-left
decreases-left l = l.left
