-- so many places so far
use Rattle.std.proofs.Common.{◌≡◌, ◌++◌, None, replicate}
use Rattle.qv_skolem.proofs.drawing.push_none.Given as goal

abbrev pub invariant-places : goal.invariant-places
invariant-places l = l.slots.items ≡ l.fn.slots.items ++ replicate l.counter None
