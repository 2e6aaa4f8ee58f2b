use Rattle.qv_dimacs.proofs.Running.{reads}
use Rattle.qv_dimacs.proofs.laws.text_is_read.Goals as goal

pub returns : goal.returns
returns c = reads
