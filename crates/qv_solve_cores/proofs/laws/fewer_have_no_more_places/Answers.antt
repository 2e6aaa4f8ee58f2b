use Rattle.qv_solve_cores.proofs.Fewer.{fewer-places}
use Rattle.qv_solve_cores.proofs.laws.fewer_have_no_more_places.Goals as goal

pub returns : goal.returns
returns _ = fewer-places
