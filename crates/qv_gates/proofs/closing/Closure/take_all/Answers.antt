use Rattle.std.proofs.Common.{refl}
use Rattle.qv_gates.proofs.Checking.{GoesOn-itself, GoesOn-on}
use Rattle.qv_gates.proofs.closing.Closure.take_all.Goals as goal

pub steps-init : goal.steps-init
steps-init c = GoesOn-itself c.args.self.now c.args.self.now refl

pub steps-preserved : goal.steps-preserved
steps-preserved c = GoesOn-on _ _ _ c.steps.invariant c.take.ensures

pub returns-then-not-take : goal.returns-then-not-take
returns-then-not-take c = GoesOn-on _ _ _ c.steps.invariant c.take.ensures
