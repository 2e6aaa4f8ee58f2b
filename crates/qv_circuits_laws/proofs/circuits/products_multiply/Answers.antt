use Rattle.qv_circuits_laws.proofs.Multiplying.{mul-computes}
use Rattle.qv_circuits_laws.proofs.circuits.products_multiply.Goals as goal

pub returns : goal.returns
returns _ v next a b one h = (mul-computes a b one).holds h
