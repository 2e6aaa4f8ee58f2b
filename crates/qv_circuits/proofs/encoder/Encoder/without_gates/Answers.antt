use Rattle.qv_circuits.proofs.Running.{ran-done}
use Rattle.qv_circuits.proofs.encoder.Encoder.without_gates.Goals as goal

pub returns : goal.returns
returns c = ran-done _ _
