use Rattle.std.proofs.Common.{◌+◌, ◌-◌, ◌*◌, ℕ, length}
use Rattle.qv_store.specs.Problems.{places_of}
use Rattle.qv_store.specs.Stores.{Grows}
use Rattle.qv_words.specs.Linked.{blocks_of}
use Rattle.qv_words.specs.Problem.{Problem}
use Rattle.qv_game_state.specs.Counts.{SameButCounts}
use Rattle.qv_game_state.specs.Charges.{instance_limit}
use Rattle.qv_game_turns.specs.Turns.{MayTurn}
use Rattle.qv_game.specs.WholeGames.{MayPlay}
use Rattle.qv_game.proofs.playing.take_turns.Given as goal

abbrev pub invariant-turns : goal.invariant-turns
invariant-turns l = record {
  grows : Grows l.fn.store l.store;
  turn : (p : Problem) (limit : ℕ) → MayPlay l.fn.store l.problem p limit l.fn.game l.fn.meter → MayTurn l.store l.problem p limit l.game l.spot l.meter;
  counts : SameButCounts l.fn.meter l.meter;
}

abbrev pub decreases-turns : goal.decreases-turns
decreases-turns l =
    (instance_limit l.meter - length l.game.entries) * (length (blocks_of (places_of l.problem)) + 2) + (length (blocks_of (places_of l.problem)) + 1 - l.spot.level)
