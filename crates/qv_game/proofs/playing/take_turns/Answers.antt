use Rattle.std.proofs.Common.{length, subst}
use Rattle.qv_store.proofs.Replacement.{grows-more}
use Rattle.qv_game_turns.specs.Turns.{IsCloser, IsTurn}
use Rattle.qv_game_turns.specs.declared.turns.Turn.{Turn}
use Rattle.qv_game_state.proofs.Counting.{same-transitive}
use Rattle.qv_game_state.proofs.Entered.{grows-none}
use Rattle.qv_game.proofs.Rounds.{first-playing, first-turn, next-turn, turn-nearer}
use Rattle.qv_game.proofs.playing.take_turns.Goals as goal

pub first_spot-requires : goal.first_spot-requires
first_spot-requires c =
    (c.requires.0, c.requires.1, first-playing c.args.store.now c.args.problem.now c.requires.0 c.requires.1 c.args.game.now c.args.meter.now c.requires.2)

pub turns-init : goal.turns-init
turns-init c = record {
  grows = grows-none c.args.store.now;
  turn = λ p limit h. first-turn c.args.store.now c.args.problem.now p limit c.args.game.now c.first_spot.new.game _ c.args.meter.now c.first_spot.new.meter h
      (c.in_ok-spot.ensures.playing p limit (first-playing c.args.store.now c.args.problem.now p limit c.args.game.now c.args.meter.now h) h.none);
  counts = c.first_spot.ensures.counts;
}

pub next_turn-requires : goal.next_turn-requires
next_turn-requires c = (c.requires.0, c.requires.1, c.turns.invariant.turn c.requires.0 c.requires.1 c.requires.2)

pub turns-preserved : goal.turns-preserved
turns-preserved c = record {
  grows = grows-more c.args.store.now c.turns.store c.next_turn.new.store c.turns.invariant.grows c.next_turn.ensures.grows;
  turn = λ p limit h.
      let may = c.turns.invariant.turn p limit h in
      next-turn c.turns.store c.next_turn.new.store c.args.problem.now p limit c.turns.game c.next_turn.new.game c.turns.spot c.in-On.next c.turns.meter c.next_turn.new.meter may c.next_turn.ensures.grows
      (subst (λ (t : Turn). IsTurn c.next_turn.new.store p limit c.next_turn.new.game c.next_turn.new.meter t) c.in-On.is (c.in_ok-turn.ensures.turn p limit may));
  counts = same-transitive c.args.meter.now c.turns.meter c.next_turn.new.meter c.turns.invariant.counts c.next_turn.ensures.counts;
}

pub turns-smaller : goal.turns-smaller
turns-smaller c =
    let p = c.requires.0 in
    let limit = c.requires.1 in
    let may = c.turns.invariant.turn p limit c.requires.2 in
    turn-nearer c.turns.store c.next_turn.new.store c.args.problem.now p limit c.turns.game c.next_turn.new.game c.turns.spot c.in-On.next c.turns.meter c.next_turn.new.meter may
    (subst (λ (t : Turn). IsTurn c.next_turn.new.store p limit c.next_turn.new.game c.next_turn.new.meter t) c.in-On.is (c.in_ok-turn.ensures.turn p limit may))
    c.next_turn.ensures.counts c.newest-record.ensures.metering
    (subst (λ (t : Turn). IsCloser (length c.turns.game.entries) c.turns.spot.level (length c.next_turn.new.game.entries) t) c.in-On.is c.in_ok-turn.ensures.closer)

pub returns-in-Over-clause-won : goal.returns-in-Over-clause-won
returns-in-Over-clause-won c p limit h =
    subst (λ (t : Turn). IsTurn c.next_turn.new.store p limit c.next_turn.new.game c.next_turn.new.meter t) c.in-Over.is
    (c.in_ok-turn.ensures.turn p limit (c.turns.invariant.turn p limit h))

pub returns-in-Over-clause-counts : goal.returns-in-Over-clause-counts
returns-in-Over-clause-counts c = same-transitive c.args.meter.now c.turns.meter c.next_turn.new.meter c.turns.invariant.counts c.next_turn.ensures.counts

pub returns-in-Over-clause-grows : goal.returns-in-Over-clause-grows
returns-in-Over-clause-grows c = grows-more c.args.store.now c.turns.store c.next_turn.new.store c.turns.invariant.grows c.next_turn.ensures.grows

pub returns-in_err-turn-clause-counts : goal.returns-in_err-turn-clause-counts
returns-in_err-turn-clause-counts c = same-transitive c.args.meter.now c.turns.meter c.next_turn.new.meter c.turns.invariant.counts c.next_turn.ensures.counts

pub returns-in_err-turn-clause-grows : goal.returns-in_err-turn-clause-grows
returns-in_err-turn-clause-grows c = grows-more c.args.store.now c.turns.store c.next_turn.new.store c.turns.invariant.grows c.next_turn.ensures.grows
