use Rattle.std.proofs.Common.{◌≡◌, ◌≤◌, length}
use Rattle.qv_sat.proofs.Depending.{Depends}
use Rattle.qv_sat.proofs.failing.failed_core.Given as goal

abbrev pub invariant-loop-left : goal.invariant-loop-left
invariant-loop-left l = record {
  depends : Depends l.trail.clauses l.trail.entries l.fn.failed l.marks.items l.core.items l.left;
  within : l.left ≤ length l.order;
  long : length l.marks.items ≡ l.variables;
}

abbrev pub decreases-loop-left : goal.decreases-loop-left
decreases-loop-left l = l.left
