-- the sums of the terms so far
use Rattle.std.proofs.Common.{◌≡◌, length}
use Rattle.qv_store.specs.Nodes.{tree_at}
use Rattle.qv_store.specs.Stores.{Grows}
use Rattle.qv_rewrite_sums.specs.Held.{sums_in, AreSums}
use Rattle.qv_rewrite_sums.proofs.summing.sums_of.Given as goal

abbrev pub invariant-terms : goal.invariant-terms
invariant-terms l = record {
  grows : Grows l.fn.store l.store;
  sums : AreSums l.store (tree_at l.fn.store) l.walk (sums_in l.sums.items);
  many : length l.sums.items ≡ l.id-index;
}
