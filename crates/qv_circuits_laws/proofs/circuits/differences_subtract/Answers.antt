use Rattle.qv_circuits_laws.proofs.Choosing.{sub-computes}
use Rattle.qv_circuits_laws.proofs.circuits.differences_subtract.Goals as goal

pub returns : goal.returns
returns _ v next a b one same h = (sub-computes a b one same).holds h
