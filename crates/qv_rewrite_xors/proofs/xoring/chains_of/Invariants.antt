-- the chains of the terms so far
use Rattle.std.proofs.Common.{◌≡◌, length}
use Rattle.qv_store.specs.Nodes.{tree_at}
use Rattle.qv_store.specs.Stores.{Grows}
use Rattle.qv_rewrite_xors.specs.Held.{AreChains}
use Rattle.qv_rewrite_xors.proofs.xoring.chains_of.Given as goal

abbrev pub invariant-terms : goal.invariant-terms
invariant-terms l = record {
  grows : Grows l.fn.store l.store;
  chains : AreChains l.store (tree_at l.fn.store) l.walk l.chains.items;
  many : length l.chains.items ≡ l.id-index;
}
