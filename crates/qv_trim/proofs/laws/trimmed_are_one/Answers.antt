use Rattle.qv_trim.proofs.Kept.{trimmed_are_one}
use Rattle.qv_trim.proofs.laws.trimmed_are_one.Goals as goal

pub returns : goal.returns
returns c = trimmed_are_one
