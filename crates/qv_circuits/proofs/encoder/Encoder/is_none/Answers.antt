use Rattle.std.proofs.Common.{refl}
use Rattle.qv_circuits.specs.Adding.{lit_of}
use Rattle.qv_circuits.proofs.Running.{exits, no-memory}
use Rattle.qv_circuits.proofs.encoder.Encoder.is_none.Goals as goal

pub returns-in_err-zeros : goal.returns-in_err-zeros
returns-in_err-zeros c = exits c.from_residual.result lit_of c.from_residual.ensures.1 (no-memory refl)

pub returns : goal.returns
returns c = rw (c.deref.ensures.value, c.in_ok-zeros.ensures, c.no.ensures) at c.equal.ensures
