-- the words of the terms so far
use Rattle.std.proofs.Common.{◌-◌, length}
use Rattle.qv_entries.specs.Tables.{AreKept}
use Rattle.qv_entries.proofs.table.fill.Given as goal

abbrev pub invariant-terms : goal.invariant-terms
invariant-terms l = AreKept l.store l.point l.walk l.words.items

abbrev pub decreases-terms : goal.decreases-terms
decreases-terms l = length l.walk - length l.words.items
