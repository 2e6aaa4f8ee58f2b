use Rattle.qv_prenex_laws.proofs.OnePass.{one-pass}
use Rattle.qv_prenex_laws.proofs.laws.one_pass.Goals as goal

pub returns : goal.returns
returns _ = one-pass
