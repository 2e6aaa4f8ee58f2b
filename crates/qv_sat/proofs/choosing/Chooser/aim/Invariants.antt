use Rattle.std.proofs.Common.{◌≡◌}
use Rattle.qv_sat.proofs.choosing.Chooser.aim.Given as goal

abbrev pub invariant-places : goal.invariant-places
invariant-places l = l.self.order ≡ l.fn.self.order
