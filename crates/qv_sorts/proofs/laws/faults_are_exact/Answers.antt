use Rattle.std.proofs.Common.{sym}
use Rattle.qv_sorts.proofs.Agreement.{agreement}
use Rattle.qv_sorts.proofs.laws.faults_are_exact.Goals as goal

pub returns : goal.returns
returns _ o sorts = sym (agreement o sorts)
