use Rattle.qv_cert.proofs.Streams.{state-is-enough}
use Rattle.qv_cert.proofs.laws.state_is_enough.Goals as goal

pub returns : goal.returns
returns c = state-is-enough
