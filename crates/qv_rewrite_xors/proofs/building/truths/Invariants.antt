-- the truth values so far
use Rattle.std.proofs.Common.{◌≡◌, map, take}
use Rattle.std.specs.List.{AllByRecursion}
use Rattle.qv_words.specs.declared.sort.Sort.TheVariants.{Bool}
use Rattle.qv_rewrite_passes.specs.Xors.{as_truth}
use Rattle.qv_store.specs.Nodes.{tree_at}
use Rattle.qv_store.specs.Stores.{Grows}
use Rattle.qv_rewrite_xors.specs.Held.{IsOfSort}
use Rattle.qv_rewrite_xors.proofs.building.truths.Given as goal

abbrev pub invariant-atoms : goal.invariant-atoms
invariant-atoms l = record {
  grows : Grows l.fn.store l.store;
  truths : map (tree_at l.store) l.truths.items ≡ map as_truth (map (tree_at l.fn.store) (take l.id-index l.atoms));
  sorts : AllByRecursion (IsOfSort l.store Bool) l.truths.items;
}
