use Rattle.std.proofs.Common.{◌≡◌, ◌++◌, map, drop}
use Rattle.qv_words.specs.Word.{values_of}
use Rattle.qv_game_entry_laws.specs.Fixings.{named_runs}
use Rattle.qv_store.specs.Walks.{named}
use Rattle.qv_game_lanes.specs.Lanes.{known_of}
use Rattle.qv_game_regions.specs.Runs.{run_of}
use Rattle.qv_game_state.specs.Naming.{is_marked_in}
use Rattle.qv_game_state.proofs.runs.failed_runs.Given as goal

abbrev pub invariant-places : goal.invariant-places
invariant-places l =
    map run_of l.runs.items ++ named_runs (is_marked_in l.marks.items) (known_of l.store l.lane) l.place (drop l.place (named l.store l.places)) (drop l.place (values_of l.point))
    ≡ named_runs (is_marked_in l.marks.items) (known_of l.store l.lane) 0 (named l.store l.places) (values_of l.point)
