use Rattle.std.proofs.Common.{◌≡◌, ◌++◌, map, drop}
use Rattle.std.specs.Prelude.{option_map}
use Rattle.qv_words.specs.Linked.{blocks_of}
use Rattle.qv_store.specs.Problems.{place_of}
use Rattle.qv_game_state.specs.Spans.{span_of, spans_from, spans_with}
use Rattle.qv_game_state.proofs.spans.spans_of.Given as goal

abbrev pub invariant-places : goal.invariant-places
invariant-places l =
    map span_of l.spans.items ++ spans_with l.number (option_map span_of l.last) (map place_of (drop l.number l.prefix))
    ≡ spans_from 0 (blocks_of (map place_of l.prefix))
