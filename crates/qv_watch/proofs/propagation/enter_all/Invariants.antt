use Rattle.std.proofs.Common.{◌+◌, ◌-◌, length}
use Rattle.qv_watch.specs.Attaching.{attached_in}
use Rattle.qv_watch.specs.Scanning.{IsSettledBelow, Scans}
use Rattle.qv_watch.specs.Watching.{IsWatching}
use Rattle.qv_watch.proofs.propagation.enter_all.Given as goal

abbrev pub invariant-loop-place : goal.invariant-loop-place
invariant-loop-place l = record {
  scans : Scans l.clauses l.fn.values l.values;
  settled : IsSettledBelow (attached_in l.clauses) l.values.entries;
  watching : IsWatching l.clauses l.values.entries l.watches;
}

abbrev pub decreases-loop-place : goal.decreases-loop-place
decreases-loop-place l = length l.watches.queue.items + (l.values.room - length l.values.entries)
