use Rattle.qv_circuits_laws.proofs.Evaluations.{some-evaluation}
use Rattle.qv_circuits_laws.proofs.circuits.gates_have_evaluations.Goals as goal

pub returns : goal.returns
returns _ v next gates h = some-evaluation v next gates h
