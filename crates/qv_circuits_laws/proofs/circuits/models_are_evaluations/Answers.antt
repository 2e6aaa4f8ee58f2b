use Rattle.qv_circuits_laws.proofs.Gates.{model-evaluates, evaluation-models}
use Rattle.qv_circuits_laws.proofs.circuits.models_are_evaluations.Goals as goal

pub returns : goal.returns
returns _ v next gates = (model-evaluates v next gates, evaluation-models v next gates)
