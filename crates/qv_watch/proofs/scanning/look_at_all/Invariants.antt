use Rattle.std.proofs.Common.{◌≡◌}
use Rattle.qv_watch.proofs.Looking.{Looked}
use Rattle.qv_watch.proofs.scanning.look_at_all.Given as goal

abbrev pub invariant-loop-place : goal.invariant-loop-place
invariant-loop-place l = record {
  room : l.values.room ≡ l.fn.values.room;
  looked : Looked l.clauses l.values.room l.fn.values.entries l.values.entries l.quiet l.place;
}
