use Rattle.qv_prenex_laws.proofs.FormLengths.{conjunction-lengths}
use Rattle.qv_prenex_laws.proofs.laws.conjunction_lengths.Goals as goal

pub returns : goal.returns
returns _ = conjunction-lengths
