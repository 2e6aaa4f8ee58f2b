use Rattle.qv_circuits_laws.proofs.Growing.{gates-go_on}
use Rattle.qv_circuits_laws.proofs.clauses.gates_go_on.Goals as goal

pub returns : goal.returns
returns _ next gates more = gates-go_on next gates more
