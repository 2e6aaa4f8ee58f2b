use Rattle.qv_prenex_laws.proofs.FormLengths.{quantifier-total}
use Rattle.qv_prenex_laws.proofs.laws.quantifier_total.Goals as goal

pub returns : goal.returns
returns _ = quantifier-total
