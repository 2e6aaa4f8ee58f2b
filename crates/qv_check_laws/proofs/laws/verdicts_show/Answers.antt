use Rattle.std.proofs.Common.{ℕ}
use Rattle.qv_check_laws.proofs.Shows.{verdicts-show}
use Rattle.qv_check_laws.proofs.laws.verdicts_show.Goals as goal

pub returns : goal.returns
returns c = verdicts-show ℕ
