use Rattle.qv_solve_cores.proofs.Fewer.{fewer-true}
use Rattle.qv_solve_cores.proofs.laws.fewer_are_true.Goals as goal

pub returns : goal.returns
returns _ = fewer-true
