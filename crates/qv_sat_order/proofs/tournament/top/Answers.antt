use Rattle.std.proofs.Common.{arith, inl, inr}
use Rattle.qv_sat_order.proofs.Standing.{stands_none, stands_next}
use Rattle.qv_sat_order.proofs.tournament.top.Goals as goal

pub up-init : goal.up-init
up-init c = record { stands = stands_none c.args.nodes.now c.args.leaf c.args.variable; within = omega arith }

pub up-preserved : goal.up-preserved
up-preserved c =
    let i = c.up.invariant in
    record {
      stands = stands_next c.args.nodes.now c.args.leaf c.args.variable c.up.place i.stands c.if-nodes-place.true;
      within = omega (arith, i.within);
    }

pub returns-after-up : goal.returns-after-up
returns-after-up c = record { stands = c.up.invariant.stands; ends = inl (omega arith) }

pub returns-else-nodes-place : goal.returns-else-nodes-place
returns-else-nodes-place c = record { stands = c.up.invariant.stands; ends = inr c.if-nodes-place.false }
