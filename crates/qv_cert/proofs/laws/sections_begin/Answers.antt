use Rattle.qv_cert.proofs.SoFar.{sections-begin}
use Rattle.qv_cert.proofs.laws.sections_begin.Goals as goal

pub returns : goal.returns
returns c = sections-begin
