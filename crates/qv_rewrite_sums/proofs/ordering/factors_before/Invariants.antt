-- what is left of the lists decides
use Rattle.std.proofs.Common.{◌≡◌, ◌≤◌, length, drop, map}
use Rattle.qv_words.specs.Sums.{factors_before}
use Rattle.qv_store.specs.Nodes.{tree_at}
use Rattle.qv_rewrite_sums.proofs.ordering.factors_before.Given as goal

abbrev pub invariant-factors : goal.invariant-factors
invariant-factors l = record {
  within : l.place ≤ length l.b;
  same : factors_before (map (tree_at l.store) (drop l.place l.a)) (map (tree_at l.store) (drop l.place l.b)) ≡ factors_before (map (tree_at l.store) l.a) (map (tree_at l.store) l.b);
}
