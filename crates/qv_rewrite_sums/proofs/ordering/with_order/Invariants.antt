-- the products that are left out at the front aren't in order yet
use Rattle.std.proofs.Common.{◌≡◌, ◌≤◌, length, drop}
use Rattle.qv_words.specs.Sums.{with_order}
use Rattle.qv_rewrite_sums.specs.Held.{sum_at, AreBelow}
use Rattle.qv_rewrite_sums.proofs.ordering.with_order.Given as goal

abbrev pub invariant-left : goal.invariant-left
invariant-left l = record {
  within : l.left ≤ length l.sum;
  order : sum_at l.store l.ordered.items ≡ with_order (sum_at l.store (drop l.left l.sum));
  below : AreBelow (length l.store) l.ordered.items;
}

abbrev pub decreases-left : goal.decreases-left
decreases-left l = l.left
