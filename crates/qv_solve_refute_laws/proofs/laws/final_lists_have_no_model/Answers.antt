use Rattle.qv_solve_refute_laws.proofs.NoModels.{final-lists}
use Rattle.qv_solve_refute_laws.proofs.laws.final_lists_have_no_model.Goals as goal

pub returns : goal.returns
returns _ = final-lists
