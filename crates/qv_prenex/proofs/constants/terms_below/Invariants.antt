-- the formulas so far are among the terms, and their constants alone
use Rattle.std.proofs.Common.{map, take}
use Rattle.std.specs.List.{AllByRecursion}
use Rattle.qv_words.specs.Truth.{constants_of_each}
use Rattle.qv_store.specs.Nodes.{tree_at}
use Rattle.qv_store.specs.Walks.{named, IsWalk}
use Rattle.qv_prenex.proofs.Leaves.{IsWithin, AllStand}
use Rattle.qv_prenex.proofs.constants.terms_below.Given as goal

abbrev pub invariant-formulas : goal.invariant-formulas
invariant-formulas l = record {
  walk : IsWalk l.store l.terms;
  within : AllByRecursion (IsWithin (constants_of_each (map (tree_at l.store) l.formulas))) (named l.store l.terms);
  stand : AllStand (named l.store l.terms) (map (tree_at l.store) (take l.id-index l.formulas));
}
