-- what was made of the terms so far
use Rattle.std.proofs.Common.{◌≡◌, length}
use Rattle.qv_store.specs.Nodes.{tree_at}
use Rattle.qv_store.specs.Stores.{Grows}
use Rattle.qv_rewrite_simps.specs.Held.{AreSimped}
use Rattle.qv_rewrite_simps.proofs.simping.simp_each.Given as goal

abbrev pub invariant-terms : goal.invariant-terms
invariant-terms l = record {
  grows : Grows l.fn.store l.store;
  made : AreSimped l.store (tree_at l.fn.store) l.walk l.made.items;
  many : length l.made.items ≡ l.id-index;
}
