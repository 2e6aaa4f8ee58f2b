use Rattle.qv_learn.specs.Frontiers.{left_in, IsPointing}
use Rattle.qv_learn.proofs.point.first_point.Given as goal

abbrev pub invariant-loop-lit : goal.invariant-loop-lit
invariant-loop-lit l = IsPointing l.trail l.conflict l.frontier

abbrev pub decreases-loop-lit : goal.decreases-loop-lit
decreases-loop-lit l = left_in l.trail l.frontier
