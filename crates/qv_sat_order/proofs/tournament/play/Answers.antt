use Rattle.std.proofs.Common.{◌≡◌, ◌+◌, ◌-◌, subst, arith}
use Rattle.std.proofs.lemmas.List.{length-set}
use Rattle.qv_sat_order.specs.Tournament.{ArePlayedFrom}
use Rattle.qv_sat_order.proofs.Playing.{drawn_set, play_next}
use Rattle.qv_sat_order.proofs.tournament.play.Goals as goal

pub up-preserved : goal.up-preserved
up-preserved c =
    let nodes = c.up.nodes in
    let held = c.args.held.now in
    let activity = c.args.activity.now in
    let p = c.up.place - 1 in
    let i = c.up.invariant in
    let next : c.up.place ≡ p + 1 = omega arith in
    record {
      drawn = drawn_set nodes held activity p c.winner.result i.drawn (omega (arith, i.within)) c.winner.ensures.within;
      played = play_next nodes held activity p c.winner.result (omega arith) (omega (arith, i.within)) c.winner.ensures.first (subst (ArePlayedFrom nodes held activity) next i.played);
      within = omega (arith, i.within, length-set nodes p c.winner.result);
    }
