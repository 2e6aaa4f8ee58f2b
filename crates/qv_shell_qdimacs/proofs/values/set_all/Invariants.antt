-- the values that are left are still to be set
use Rattle.std.proofs.Common.{◌≡◌, drop}
use Rattle.qv_shell_qdimacs.specs.Values.{filled}
use Rattle.qv_shell_qdimacs.proofs.values.set_all.Given as goal

abbrev pub invariant-places : goal.invariant-places
invariant-places l = filled l.values (drop l.value-index l.given) ≡ filled l.fn.values l.given
