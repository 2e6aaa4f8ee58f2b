use Rattle.std.proofs.Common.{List, map, take}
use Rattle.qv_words.specs.Tree.{Tree}
use Rattle.qv_store.specs.Stores.{AreShared}
use Rattle.qv_game_state.specs.Spans.{span_of}
use Rattle.qv_game_state.specs.Starting.{AreNew}
use Rattle.qv_game_state.proofs.starting.new_queries.Given as goal

abbrev pub invariant-spans : goal.invariant-spans
invariant-spans l = (trees : List Tree) → AreShared trees → AreNew trees l.limit (map span_of (take l.span-index l.spans)) l.queries.items
