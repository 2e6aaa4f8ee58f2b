use Rattle.std.proofs.Common.{◌/◌, arith}
use Rattle.std.proofs.lemmas.List.{length-set}
use Rattle.qv_sat_order.proofs.Playing.{drawn_set, mend_next, mend_stops}
use Rattle.qv_sat_order.proofs.tournament.mend.Goals as goal

pub up-preserved : goal.up-preserved
up-preserved c =
    let nodes = c.up.nodes in
    let held = c.args.held.now in
    let activity = c.args.activity.now in
    let p = c.up.place / 2 in
    let i = c.up.invariant in
    record {
      drawn = drawn_set nodes held activity p c.winner-first.result i.drawn (omega (arith, i.within)) c.winner-first.ensures.within;
      played = mend_next nodes held activity p c.winner-first.result (omega arith) (omega (arith, i.within)) c.winner-first.ensures.first i.played;
      within = omega (arith, i.within, length-set nodes p c.winner-first.result);
    }

pub returns-then-nodes-place-clause-played : goal.returns-then-nodes-place-clause-played
returns-then-nodes-place-clause-played c = mend_stops c.up.nodes c.args.held.now c.args.activity.now (c.up.place / 2) c.winner-first.result c.winner-first.ensures.first c.if-nodes-place.true c.up.invariant.played
