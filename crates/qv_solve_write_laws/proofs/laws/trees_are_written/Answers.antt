use Rattle.qv_solve_write_laws.proofs.Written.{trees-written}
use Rattle.qv_solve_write_laws.proofs.laws.trees_are_written.Goals as goal

pub returns : goal.returns
returns _ = trees-written
