use Rattle.qv_check_laws.proofs.Answers.{sat-is-true}
use Rattle.qv_check_laws.proofs.laws.sat_is_true.Goals as goal

pub returns : goal.returns
returns _ = sat-is-true
