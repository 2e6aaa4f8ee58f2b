-- the terms so far
use Rattle.std.proofs.Common.{◌≡◌, ◌++◌, Some, map, take}
use Rattle.qv_skolem.proofs.drawing.push_terms.Given as goal

abbrev pub invariant-terms : goal.invariant-terms
invariant-terms l = l.slots.items ≡ l.fn.slots.items ++ map Some (take l.term-index l.terms)
