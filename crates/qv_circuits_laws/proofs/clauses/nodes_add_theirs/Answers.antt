use Rattle.qv_circuits_laws.proofs.Growing.{nodes-add}
use Rattle.qv_circuits_laws.proofs.clauses.nodes_add_theirs.Goals as goal

pub returns : goal.returns
returns _ b ts = nodes-add b ts
