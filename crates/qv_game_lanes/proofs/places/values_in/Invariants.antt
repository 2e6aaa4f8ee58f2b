use Rattle.std.proofs.Common.{◌≡◌, map, take}
use Rattle.std.specs.Prelude.{unwrap_or}
use Rattle.qv_words.specs.declared.sort.Sort.TheVariants.{Bool as BoolSort}
use Rattle.qv_words.specs.Tree.{tree_sort}
use Rattle.qv_words.specs.Word.{sorts_of, values_of}
use Rattle.qv_game_entry_laws.specs.PointLaws.{values_under}
use Rattle.qv_sat.specs.Answering.{assignment}
use Rattle.qv_store.specs.Nodes.{tree_at}
use Rattle.qv_store.specs.Walks.{named}
use Rattle.qv_game_lanes.specs.Lanes.{known_at}
use Rattle.qv_game_lanes.proofs.places.values_in.Given as goal

abbrev pub invariant-places : goal.invariant-places
invariant-places l = record {
  sorts : sorts_of l.values.items ≡ map (λ n. unwrap_or (tree_sort (tree_at l.store n)) BoolSort) (take l.id-index l.places);
  values : values_of l.values.items ≡ values_under (assignment l.model) (known_at l.store l.blaster) (named l.store (take l.id-index l.places));
}
