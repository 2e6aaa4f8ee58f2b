use Rattle.std.proofs.Common.{map, take, unsigned_abs}
use Rattle.qv_trim.specs.Marking.{HasId, Marks}
use Rattle.qv_trim.proofs.marking.mark_hinted.Given as goal

-- what the hints so far name
abbrev pub invariant-hints : goal.invariant-hints
invariant-hints l = Marks l.entries (HasId l.entries (map unsigned_abs (take l.hint-index l.hints))) l.at l.fn.marks l.marks l.again
