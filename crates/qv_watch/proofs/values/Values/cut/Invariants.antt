use Rattle.std.proofs.Common.{◌≡◌, ◌≤◌, length, take}
use Rattle.qv_watch.specs.Entries.{last_level, up_to}
use Rattle.qv_watch.proofs.values.Values.cut.Given as goal

abbrev pub invariant-loop-self : goal.invariant-loop-self
invariant-loop-self l = record {
  room : l.self.room ≡ l.fn.self.room;
  kept : up_to l.level l.self.entries ≡ up_to l.level l.fn.self.entries;
  front : l.self.entries ≡ take (length l.self.entries) l.fn.self.entries;
  reached : l.level ≤ last_level l.self.entries;
}

abbrev pub decreases-loop-self : goal.decreases-loop-self
decreases-loop-self l = length l.self.entries
