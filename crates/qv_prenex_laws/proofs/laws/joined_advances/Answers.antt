use Rattle.qv_prenex_laws.proofs.Advancing.{joined-advances}
use Rattle.qv_prenex_laws.proofs.laws.joined_advances.Goals as goal

pub returns : goal.returns
returns _ = joined-advances
