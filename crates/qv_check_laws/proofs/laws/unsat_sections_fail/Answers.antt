use Rattle.qv_check_laws.proofs.Answers.{unsat-sections-fail}
use Rattle.qv_check_laws.proofs.laws.unsat_sections_fail.Goals as goal

pub returns : goal.returns
returns _ = unsat-sections-fail
