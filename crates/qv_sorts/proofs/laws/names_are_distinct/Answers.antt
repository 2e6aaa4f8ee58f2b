use Rattle.qv_sorts.proofs.Distinct.{one_operator}
use Rattle.qv_sorts.proofs.laws.names_are_distinct.Goals as goal

pub returns : goal.returns
returns _ = one_operator
