use Rattle.qv_solve_refute_laws.proofs.StepIds.{steps-have_ids}
use Rattle.qv_solve_refute_laws.proofs.laws.steps_have_ids.Goals as goal

pub returns : goal.returns
returns _ = steps-have_ids
