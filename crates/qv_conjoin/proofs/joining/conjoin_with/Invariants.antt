-- the term is the conjunction so far
use Rattle.std.proofs.Common.{◌≡◌, Some, map, take}
use Rattle.qv_words.specs.declared.sort.Sort.TheVariants.{Bool as BoolSort}
use Rattle.qv_words.specs.Tree.{tree_sort}
use Rattle.qv_words.specs.Problem.{conjunction_with}
use Rattle.qv_store.specs.Nodes.{tree_at}
use Rattle.qv_store.specs.Stores.{StandsAt, AreShared, Grows}
use Rattle.qv_conjoin.proofs.joining.conjoin_with.Given as goal

abbrev pub invariant-each : goal.invariant-each
invariant-each l = record {
  grows : Grows l.fn.store l.store;
  stands : StandsAt l.store l.id (conjunction_with (tree_at l.fn.store l.fn.first) (map (tree_at l.fn.store) (take l.formula-index l.rest)));
  shared : AreShared l.store;
  bool : tree_sort (tree_at l.store l.id) ≡ Some BoolSort;
}
