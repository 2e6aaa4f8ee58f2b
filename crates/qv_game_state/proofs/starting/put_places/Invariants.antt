use Rattle.std.proofs.Common.{◌≡◌, ◌<◌, length, map, take}
use Rattle.std.specs.List.{All}
use Rattle.qv_store.specs.Stores.{Grows}
use Rattle.qv_store.specs.Walks.{named}
use Rattle.qv_store.specs.declared.problem.Place.{Place}
use Rattle.qv_game_entry_laws.specs.PointLaws.{places_from}
use Rattle.qv_game_state.proofs.starting.put_places.Given as goal

abbrev pub invariant-places : goal.invariant-places
invariant-places l = record {
  below : All (λ n. n < length l.store) l.ids.items;
  places : named l.store l.ids.items ≡ places_from 0 (map (λ (place : Place). place.sort) (take l.level l.prefix));
  grows : Grows l.initial.store l.store;
}
