use Rattle.qv_cert.proofs.Accepting.{sections-are-accepted}
use Rattle.qv_cert.proofs.laws.sections_are_accepted.Goals as goal

pub returns : goal.returns
returns c = sections-are-accepted
