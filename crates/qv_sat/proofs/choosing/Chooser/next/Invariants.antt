use Rattle.std.proofs.Common.{◌≡◌, length}
use Rattle.qv_sat.specs.Choosing.{Covers, held_in}
use Rattle.qv_sat.proofs.choosing.Chooser.next.Given as goal

abbrev pub invariant-loop-variable : goal.invariant-loop-variable
invariant-loop-variable l = record {
  long : length l.self.order.held ≡ length l.fn.self.order.held;
  covers : Covers l.self.order.held l.trail.entries;
}

abbrev pub decreases-loop-variable : goal.decreases-loop-variable
decreases-loop-variable l = held_in l.self.order.held
