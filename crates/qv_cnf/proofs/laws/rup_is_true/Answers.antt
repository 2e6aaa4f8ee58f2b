use Rattle.qv_cnf.proofs.Soundness.{clause_value-rup}
use Rattle.qv_cnf.proofs.laws.rup_is_true.Goals as goal

pub returns : goal.returns
returns c = clause_value-rup
