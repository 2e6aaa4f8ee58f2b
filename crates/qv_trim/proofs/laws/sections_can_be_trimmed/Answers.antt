use Rattle.qv_trim.proofs.Found.{sections_can_be_trimmed}
use Rattle.qv_trim.proofs.laws.sections_can_be_trimmed.Goals as goal

pub returns : goal.returns
returns c = sections_can_be_trimmed
