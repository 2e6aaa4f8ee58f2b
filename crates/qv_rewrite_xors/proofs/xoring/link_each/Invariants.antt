-- the chains so far and those that are left make what all make
use Rattle.std.proofs.Common.{◌≡◌, length, drop, fold}
use Rattle.qv_rewrite_passes.specs.Xors.{linked, chains}
use Rattle.qv_store.specs.Nodes.{trees_at}
use Rattle.qv_rewrite_xors.specs.Held.{chain_at, AreBelow}
use Rattle.qv_rewrite_xors.proofs.xoring.link_each.Given as goal

abbrev pub invariant-kids : goal.invariant-kids
invariant-kids l = record {
  chain : fold linked (chain_at l.store l.made) (chains (trees_at l.store (drop l.kid-index l.kids))) ≡ fold linked (chain_at l.store l.fn.made) (chains (trees_at l.store l.kids));
  below : AreBelow (length l.store) l.made.atoms.items;
}
