use Rattle.qv_check_trim.proofs.Can.{certs-can_be_trimmed}
use Rattle.qv_check_trim.proofs.laws.certs_can_be_trimmed.Goals as goal

pub returns : goal.returns
returns _ = certs-can_be_trimmed
