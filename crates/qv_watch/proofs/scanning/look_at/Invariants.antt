use Rattle.std.proofs.Common.{◌≡◌, drop, None}
use Rattle.qv_watch.proofs.Readings.{scan}
use Rattle.qv_watch.proofs.scanning.look_at.Given as goal

abbrev pub invariant-loop-lit : goal.invariant-loop-lit
invariant-loop-lit l = scan l.values.entries (drop l.lit-index l.lits) l.free ≡ scan l.values.entries l.lits None
