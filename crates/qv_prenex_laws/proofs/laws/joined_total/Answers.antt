use Rattle.qv_prenex_laws.proofs.FormLengths.{joined-total}
use Rattle.qv_prenex_laws.proofs.laws.joined_total.Goals as goal

pub returns : goal.returns
returns _ = joined-total
