use Rattle.qv_trim.proofs.Kept.{kept_refute}
use Rattle.qv_trim.proofs.laws.kept_lines_refute.Goals as goal

pub returns : goal.returns
returns c = kept_refute
