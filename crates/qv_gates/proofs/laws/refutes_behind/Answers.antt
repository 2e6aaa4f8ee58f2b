use Rattle.qv_gates.proofs.Following.{RefutesBehind-holds}
use Rattle.qv_gates.proofs.laws.refutes_behind.Goals as goal

pub returns : goal.returns
returns _ = RefutesBehind-holds
