use Rattle.qv_prenex_laws.proofs.FormLengths.{splits-shrink}
use Rattle.qv_prenex_laws.proofs.laws.splits_shrink.Goals as goal

pub returns : goal.returns
returns _ = splits-shrink
