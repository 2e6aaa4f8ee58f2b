use Rattle.std.proofs.Common.{◌≤◌, ◌-◌, length}
use Rattle.qv_watch.specs.Visiting.{AreTrue}
use Rattle.qv_watch.proofs.propagation.skip.Given as goal

abbrev pub invariant-watches : goal.invariant-watches
invariant-watches l = record {
  from : l.i ≤ l.next;
  within : l.next ≤ length l.list;
  skipped : AreTrue l.values.entries l.list l.i l.next;
}

abbrev pub decreases-watches : goal.decreases-watches
decreases-watches l = length l.list - l.next
