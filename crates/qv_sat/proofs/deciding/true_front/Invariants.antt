use Rattle.std.proofs.Common.{◌-◌, length}
use Rattle.qv_sat.specs.Deciding.{AreOpened}
use Rattle.qv_sat.proofs.deciding.true_front.Given as goal

abbrev pub invariant-loop-opened : goal.invariant-loop-opened
invariant-loop-opened l = AreOpened l.trail l.assumptions l.opened

abbrev pub decreases-loop-opened : goal.decreases-loop-opened
decreases-loop-opened l = length l.assumptions - l.opened
