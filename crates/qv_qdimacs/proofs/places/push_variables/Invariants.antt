-- the variables so far
use Rattle.std.proofs.Common.{◌≡◌, ◌++◌, take}
use Rattle.qv_qdimacs.specs.Outer.{variables_of}
use Rattle.qv_qdimacs.proofs.places.push_variables.Given as goal

abbrev pub invariant-prefix : goal.invariant-prefix
invariant-prefix l = l.variables.items ≡ l.fn.variables.items ++ variables_of (take l.quantified-index l.prefix)
