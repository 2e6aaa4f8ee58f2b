use Rattle.std.proofs.Common.{◌≡◌, ◌-◌, length}
use Rattle.qv_watch.specs.Entries.{last_level}
use Rattle.qv_watch.specs.Scanning.{Scans}
use Rattle.qv_watch.proofs.scanning.scan.Given as goal

abbrev pub invariant-loop-answer : goal.invariant-loop-answer
invariant-loop-answer l = record {
  scans : Scans l.clauses l.fn.values l.values;
  level : last_level l.values.entries ≡ last_level l.fn.values.entries;
}

abbrev pub decreases-loop-answer : goal.decreases-loop-answer
decreases-loop-answer l = l.values.room - length l.values.entries
