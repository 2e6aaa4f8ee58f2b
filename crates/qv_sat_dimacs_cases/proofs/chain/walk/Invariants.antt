use Rattle.std.proofs.Common.{◌*◌, ◌≤◌}
use Rattle.qv_sat_dimacs_cases.proofs.chain.walk.Given as goal

abbrev pub invariant-attaching : goal.invariant-attaching
invariant-attaching l = 2 * l.pairs ≤ l.trail.room

abbrev pub invariant-assuming : goal.invariant-assuming
invariant-assuming l = 2 * l.pairs ≤ l.trail.room
