use Rattle.std.proofs.Common.{arith}
use Rattle.qv_learn.proofs.Reaching.{reaches_next}
use Rattle.qv_learn.proofs.point.Frontier.reach_all.Goals as goal

pub loop-lit-preserved : goal.loop-lit-preserved
loop-lit-preserved c =
    reaches_next c.args.trail.now c.args.clause.now c.loop-lit.lit-index c.lit-item.result c.args.self.now c.loop-lit.self c.reach.new.self (omega arith) c.lit-item.is c.loop-lit.invariant c.in_ok-reach.ensures
