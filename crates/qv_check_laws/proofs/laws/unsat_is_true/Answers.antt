use Rattle.qv_check_laws.proofs.Answers.{unsat-is-true}
use Rattle.qv_check_laws.proofs.laws.unsat_is_true.Goals as goal

pub returns : goal.returns
returns _ = unsat-is-true
