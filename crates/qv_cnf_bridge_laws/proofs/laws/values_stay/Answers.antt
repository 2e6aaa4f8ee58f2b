use Rattle.qv_cnf_bridge_laws.proofs.Bridging.{clauses-value}
use Rattle.qv_cnf_bridge_laws.proofs.laws.values_stay.Goals as goal

pub returns : goal.returns
returns _ = clauses-value
