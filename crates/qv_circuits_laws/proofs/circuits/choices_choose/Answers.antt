use Rattle.qv_circuits_laws.proofs.Choosing.{sel-computes}
use Rattle.qv_circuits_laws.proofs.circuits.choices_choose.Goals as goal

pub returns : goal.returns
returns _ v next c a b same h = (sel-computes c a b same).holds h
