use Rattle.std.proofs.Common.{◌≡◌, ◌≤◌, ◌<◌, ◌-◌, length, drop, Some, slice_get}
use Rattle.qv_cnf.specs.Runs.{AreAbove}
use Rattle.qv_cnf.specs.declared.numbering.Run.{Run}
use Rattle.qv_cnf.proofs.numbering.count_up_to.Given as goal

-- those before begin with this id or one below, and those behind above it
abbrev pub invariant-halves : goal.invariant-halves
invariant-halves l = record {
  order : l.low ≤ l.high;
  within : l.high ≤ length l.runs;
  up : (r : Run) → 0 < l.low → slice_get l.runs (l.low - 1) ≡ Some r → r.first ≤ l.id;
  above : AreAbove l.id (drop l.high l.runs);
}

abbrev pub decreases-halves : goal.decreases-halves
decreases-halves l = l.high - l.low
