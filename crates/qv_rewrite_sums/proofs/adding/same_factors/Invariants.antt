-- what is left of both lists has the same words as often exactly where the lists have
use Rattle.std.proofs.Common.{◌≡◌, map, drop}
use Rattle.qv_words.specs.Sums.{same_factors}
use Rattle.qv_store.specs.Nodes.{tree_at}
use Rattle.qv_rewrite_sums.specs.Held.{AreWords}
use Rattle.qv_rewrite_sums.proofs.adding.same_factors.Given as goal

abbrev pub invariant-factors : goal.invariant-factors
invariant-factors l = record {
  same : same_factors (map (tree_at l.store) (drop l.id-index l.a)) (map (tree_at l.store) l.left.items) ≡ same_factors (map (tree_at l.store) l.a) (map (tree_at l.store) l.b);
  words : AreWords l.width (map (tree_at l.store) l.left.items);
}
