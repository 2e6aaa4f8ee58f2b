use Rattle.std.proofs.Common.{◌≡◌}
use Rattle.qv_sat.proofs.choosing.Chooser.bump.Given as goal

abbrev pub invariant-loop-variable : goal.invariant-loop-variable
invariant-loop-variable l = l.self.order.held ≡ l.fn.self.order.held
