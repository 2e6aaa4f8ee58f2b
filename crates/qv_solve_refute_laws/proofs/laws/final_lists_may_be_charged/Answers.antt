use Rattle.qv_solve_refute_laws.proofs.FinalUnits.{may-be-charged}
use Rattle.qv_solve_refute_laws.proofs.laws.final_lists_may_be_charged.Goals as goal

pub returns : goal.returns
returns _ = may-be-charged
