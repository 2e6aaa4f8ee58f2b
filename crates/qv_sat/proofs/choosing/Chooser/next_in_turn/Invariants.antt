use Rattle.std.proofs.Common.{◌≡◌, ◌-◌, ◌≤◌}
use Rattle.qv_sat.proofs.choosing.Chooser.next_in_turn.Given as goal

abbrev pub invariant-up : goal.invariant-up
invariant-up l = record {
  order : l.self.order ≡ l.fn.self.order;
  within : l.self.passed ≤ l.last;
}

abbrev pub decreases-up : goal.decreases-up
decreases-up l = l.last - l.self.passed
