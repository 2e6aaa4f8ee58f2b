use Rattle.std.proofs.Common.{◌/◌, sym, ◌∙◌, arith}
use Rattle.std.proofs.lemmas.List.{length-set}
use Rattle.qv_sat_order.proofs.Playing.{drawn_set}
use Rattle.qv_sat_order.proofs.Raising.{raise_next, raise_stops}
use Rattle.qv_sat_order.proofs.tournament.raise.Goals as goal

pub up-preserved : goal.up-preserved
up-preserved c =
    let nodes = c.up.nodes in
    let held = c.args.held.now in
    let activity = c.args.activity.now in
    let p = c.up.place / 2 in
    let v = c.args.variable in
    let i = c.up.invariant in
    record {
      drawn = drawn_set nodes held activity p v i.drawn (omega (arith, i.within)) c.requires.variable;
      raising = raise_next nodes held activity v c.up.place i.drawn i.raising c.up-test.true i.within c.requires.variable (sym c.goes_behind.ensures ∙ c.if-not-goes_behind.false);
      within = omega (arith, i.within, length-set nodes p v);
    }

pub returns-then-not-goes_behind-clause-played : goal.returns-then-not-goes_behind-clause-played
returns-then-not-goes_behind-clause-played c =
    let i = c.up.invariant in
    raise_stops c.up.nodes c.args.held.now c.args.activity.now c.args.variable c.up.place i.drawn i.raising c.up-test.true i.within (sym c.goes_behind.ensures ∙ c.if-not-goes_behind.true)
