use Rattle.qv_check_trim.proofs.Again.{certs-are-trimmed-once}
use Rattle.qv_check_trim.proofs.laws.certs_are_trimmed_once.Goals as goal

pub returns : goal.returns
returns _ = certs-are-trimmed-once
