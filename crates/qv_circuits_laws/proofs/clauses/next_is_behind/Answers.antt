use Rattle.qv_circuits_laws.proofs.Growing.{next-behind}
use Rattle.qv_circuits_laws.proofs.clauses.next_is_behind.Goals as goal

pub returns : goal.returns
returns _ formulas = next-behind formulas
