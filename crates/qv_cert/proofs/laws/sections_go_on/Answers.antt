use Rattle.qv_cert.proofs.SoFar.{sections-go-on}
use Rattle.qv_cert.proofs.laws.sections_go_on.Goals as goal

pub returns : goal.returns
returns c = sections-go-on
