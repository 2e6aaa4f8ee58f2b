-- the term is the conjunction so far
use Rattle.std.proofs.Common.{◌≡◌, Some, map, take}
use Rattle.qv_words.specs.declared.sort.Sort.TheVariants.{Bool as BoolSort}
use Rattle.qv_words.specs.Tree.{tree_sort}
use Rattle.qv_words.specs.Problem.{conjunction_with}
use Rattle.qv_store.specs.Nodes.{tree_at}
use Rattle.qv_store.specs.Stores.{AreShared, Grows, StandsAt}
use Rattle.qv_game_regions.specs.Runs.{fixing_at}
use Rattle.qv_game_regions.proofs.fixing.fix_more.Given as goal

abbrev pub invariant-runs : goal.invariant-runs
invariant-runs l = record {
  grows : Grows l.fn.store l.store;
  shared : AreShared l.store;
  stands : StandsAt l.store l.region (conjunction_with (fixing_at l.point l.fn.first) (map (fixing_at l.point) (take l.run-index l.rest)));
  bool : tree_sort (tree_at l.store l.region) ≡ Some BoolSort;
}
