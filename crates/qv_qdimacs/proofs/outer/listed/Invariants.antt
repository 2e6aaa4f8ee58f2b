-- the keys so far, and those that are left
use Rattle.std.proofs.Common.{◌≡◌, ◌++◌}
use Rattle.qv_qdimacs.proofs.outer.listed.Given as goal

abbrev pub invariant-free : goal.invariant-free
invariant-free l = l.list.items ++ l.variable-iterator ≡ l.free.keys
