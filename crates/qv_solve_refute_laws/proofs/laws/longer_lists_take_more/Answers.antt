use Rattle.qv_solve_refute_laws.proofs.FinalUnits.{longer-lists}
use Rattle.qv_solve_refute_laws.proofs.laws.longer_lists_take_more.Goals as goal

pub returns : goal.returns
returns _ = longer-lists
