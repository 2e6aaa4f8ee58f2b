use Rattle.std.proofs.Common.{◌≤◌, ◌-◌, length}
use Rattle.qv_watch.specs.Scanning.{Scans}
use Rattle.qv_watch.specs.Visiting.{IsVisiting}
use Rattle.qv_watch.specs.Watching.{Frames}
use Rattle.qv_watch.proofs.propagation.visit_each.Given as goal

abbrev pub invariant-loop-i : goal.invariant-loop-i
invariant-loop-i l = record {
  scans : Scans l.clauses l.fn.values l.values;
  frames : Frames l.fn.watches l.watches;
  visiting : IsVisiting l.clauses l.values.entries l.watches l.list.items l.i l.lit;
  within : l.i ≤ length l.list.items;
}

abbrev pub decreases-loop-i : goal.decreases-loop-i
decreases-loop-i l = length l.list.items - l.i
