use Rattle.qv_sorts.proofs.Distinct.{one_count}
use Rattle.qv_sorts.proofs.laws.names_have_one_count.Goals as goal

pub returns : goal.returns
returns _ = one_count
