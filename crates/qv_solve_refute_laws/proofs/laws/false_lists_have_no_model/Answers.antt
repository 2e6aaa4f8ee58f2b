use Rattle.qv_solve_refute_laws.proofs.NoModels.{false-lists}
use Rattle.qv_solve_refute_laws.proofs.laws.false_lists_have_no_model.Goals as goal

pub returns : goal.returns
returns _ = false-lists
