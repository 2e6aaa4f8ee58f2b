use Rattle.qv_cert.proofs.Streams.{answers-stay}
use Rattle.qv_cert.proofs.laws.answers_stay.Goals as goal

pub returns : goal.returns
returns c = answers-stay
