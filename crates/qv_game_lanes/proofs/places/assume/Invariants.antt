use Rattle.std.proofs.Common.{◌≡◌, ◌++◌, drop}
use Rattle.qv_words.specs.Word.{values_of}
use Rattle.qv_circuits.specs.Adding.{lits_of}
use Rattle.qv_game_entry_laws.specs.Fixings.{fixings}
use Rattle.qv_store.specs.Walks.{named}
use Rattle.qv_game_lanes.specs.Lanes.{known_at}
use Rattle.qv_game_lanes.proofs.places.assume.Given as goal

abbrev pub invariant-places : goal.invariant-places
invariant-places l =
    lits_of l.lits.items ++ fixings (known_at l.store l.blaster) (drop l.place (named l.store l.places)) (drop l.place (values_of l.point))
    ≡ fixings (known_at l.store l.blaster) (named l.store l.places) (values_of l.point)
