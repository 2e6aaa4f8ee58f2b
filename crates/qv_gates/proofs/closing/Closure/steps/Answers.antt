use Rattle.std.proofs.Common.{subst}
use Rattle.qv_cnf.specs.Refutation.{standing_at}
use Rattle.qv_gates.specs.Closing.{Adds, Closing}
use Rattle.qv_gates.proofs.closing.Closure.steps.Goals as goal

pub returns-clause-adds : goal.returns-clause-adds
returns-clause-adds c = subst (λ (k : Closing). Adds (standing_at k.base) k.steps) c.self.view_is c.self.invariant.adds
