use Rattle.qv_circuits_laws.proofs.Clausing.{clauses-theorem}
use Rattle.qv_circuits_laws.proofs.Grounds.{clause-laws}
use Rattle.qv_circuits_laws.proofs.clauses.clauses_mean.Goals as goal

pub returns : goal.returns
returns _ formulas c e plain bools values = clauses-theorem clause-laws formulas c e plain bools values
