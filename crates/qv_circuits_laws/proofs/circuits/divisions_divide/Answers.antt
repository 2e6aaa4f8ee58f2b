use Rattle.qv_circuits_laws.proofs.Dividing.{div-computes}
use Rattle.qv_circuits_laws.proofs.circuits.divisions_divide.Goals as goal

pub returns : goal.returns
returns _ v next a b one same h = (div-computes a b one same).holds h
