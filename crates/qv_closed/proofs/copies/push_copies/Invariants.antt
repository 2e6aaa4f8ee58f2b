-- the copies so far
use Rattle.std.proofs.Common.{◌≡◌, ◌++◌, take}
use Rattle.qv_cnf.specs.LratLine.{lines_of}
use Rattle.qv_closed.proofs.copies.push_copies.Given as goal

abbrev pub invariant-copied : goal.invariant-copied
invariant-copied l = lines_of l.into.items ≡ lines_of l.initial.into.items ++ take l.step-index (lines_of l.steps)
