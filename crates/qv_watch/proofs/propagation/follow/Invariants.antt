use Rattle.std.proofs.Common.{◌≡◌, ◌-◌, []}
use Rattle.qv_watch.specs.Scanning.{Scans}
use Rattle.qv_watch.specs.Watching.{IsWatching}
use Rattle.qv_watch.proofs.propagation.follow.Given as goal

abbrev pub invariant-loop-lit : goal.invariant-loop-lit
invariant-loop-lit l = record {
  scans : Scans l.clauses l.fn.values l.values;
  watching : IsWatching l.clauses l.values.entries l.watches;
  none : l.watches.queue.items ≡ [];
}

abbrev pub decreases-loop-lit : goal.decreases-loop-lit
decreases-loop-lit l = l.values.room - l.watches.head
