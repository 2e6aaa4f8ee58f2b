-- What is known of lanes.
use Rattle.std.specs.Prelude.{List}
use Rattle.qv_words.specs.Tree.{Tree}
use Rattle.qv_store.specs.Stores.{Grows}
use Rattle.qv_game_lanes.specs.declared.lane.Lane.{Lane}
use Rattle.qv_game_lanes.specs.Lanes.{IsLane}

-- where a store has grown, a lane has the clauses of the same formulas
abbrev pub LanesStay : Type 0
LanesStay = (old new formulas : List Tree) (l : Lane) → Grows old new → IsLane old formulas l → IsLane new formulas l
