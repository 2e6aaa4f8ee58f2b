use Rattle.std.proofs.Common.{◌≤◌, ◌-◌, length}
use Rattle.qv_trim.specs.Marking.{IsBelow, IsFrom}
use Rattle.qv_trim.proofs.marking.find.Given as goal

-- those before have lower ids, and those behind no lower ones
abbrev pub invariant-halves : goal.invariant-halves
invariant-halves l = record {
  order : l.low ≤ l.high;
  within : l.high ≤ length l.entries;
  below : IsBelow l.entries l.id l.low;
  from : IsFrom l.entries l.id l.high;
}

abbrev pub decreases-halves : goal.decreases-halves
decreases-halves l = l.high - l.low
