use Rattle.qv_trim.proofs.Found.{lines_can_be_trimmed}
use Rattle.qv_trim.proofs.laws.lines_can_be_trimmed.Goals as goal

pub returns : goal.returns
returns c = lines_can_be_trimmed
