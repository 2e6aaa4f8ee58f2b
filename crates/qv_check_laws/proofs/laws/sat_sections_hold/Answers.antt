use Rattle.qv_check_laws.proofs.Answers.{sat-sections-hold}
use Rattle.qv_check_laws.proofs.laws.sat_sections_hold.Goals as goal

pub returns : goal.returns
returns _ = sat-sections-hold
