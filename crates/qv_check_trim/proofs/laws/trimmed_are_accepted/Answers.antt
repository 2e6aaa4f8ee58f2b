use Rattle.qv_check_trim.proofs.Again.{trimmed-are-accepted}
use Rattle.qv_check_trim.proofs.laws.trimmed_are_accepted.Goals as goal

pub returns : goal.returns
returns _ = trimmed-are-accepted
