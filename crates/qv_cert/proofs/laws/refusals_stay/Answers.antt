use Rattle.qv_cert.proofs.Streams.{refusals-stay}
use Rattle.qv_cert.proofs.laws.refusals_stay.Goals as goal

pub returns : goal.returns
returns c = refusals-stay
