use Rattle.qv_lrat.proofs.Exact.{accepted-exactly}
use Rattle.qv_lrat.proofs.laws.accepted_exactly.Goals as goal

pub returns : goal.returns
returns c = accepted-exactly
