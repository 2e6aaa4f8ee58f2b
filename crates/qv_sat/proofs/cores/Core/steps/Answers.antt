use Rattle.std.proofs.Common.{subst}
use Rattle.qv_cnf.specs.LratLine.{lines_of}
use Rattle.qv_sat.specs.CoreState.{CoreState}
use Rattle.qv_sat.specs.Feeding.{IsAccepted}
use Rattle.qv_sat.proofs.Accepting.{IsAccepted-from_derivation}
use Rattle.qv_sat.proofs.cores.Core.steps.Goals as goal

pub returns-clause-accepted : goal.returns-clause-accepted
returns-clause-accepted c =
    let s = c.self.inside.solver in
    subst (λ (k : CoreState). IsAccepted k.base k.steps) c.self.view_is (IsAccepted-from_derivation s.base.live (lines_of s.steps.items) s.top c.self.invariant.held.core.derivation c.self.invariant.held.ordered)
