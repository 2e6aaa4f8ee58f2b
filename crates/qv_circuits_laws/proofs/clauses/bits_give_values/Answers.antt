use Rattle.qv_circuits_laws.proofs.Modelling.{bits-give_values}
use Rattle.qv_circuits_laws.proofs.clauses.bits_give_values.Goals as goal

pub returns : goal.returns
returns _ formulas c e v plain leaves = bits-give_values formulas c e v plain leaves
