use Rattle.qv_prenex_laws.proofs.PrenexRight.{prenex-theorem}
use Rattle.qv_prenex_laws.proofs.laws.prenex_theorem.Goals as goal

pub returns : goal.returns
returns _ = prenex-theorem
