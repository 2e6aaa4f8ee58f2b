use Rattle.qv_prenex_laws.proofs.Advancing.{quantifier-advances}
use Rattle.qv_prenex_laws.proofs.laws.quantifier_advances.Goals as goal

pub returns : goal.returns
returns _ = quantifier-advances
