use Rattle.qv_solve_cores.proofs.Spared.{none-spared}
use Rattle.qv_solve_cores.proofs.laws.none_can_be_spared.Goals as goal

pub returns : goal.returns
returns _ = none-spared
