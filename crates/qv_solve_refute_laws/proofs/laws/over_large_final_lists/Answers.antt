use Rattle.qv_solve_refute_laws.proofs.FinalUnits.{over-large}
use Rattle.qv_solve_refute_laws.proofs.laws.over_large_final_lists.Goals as goal

pub returns : goal.returns
returns _ = over-large
