use Rattle.std.proofs.Common.{ℕ}
use Rattle.qv_check_laws.proofs.Answers.{verdicts-are-true}
use Rattle.qv_check_laws.proofs.laws.verdicts_are_true.Goals as goal

pub returns : goal.returns
returns _ = verdicts-are-true ℕ
