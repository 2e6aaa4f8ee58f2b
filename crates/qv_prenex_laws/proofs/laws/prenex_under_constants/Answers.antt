use Rattle.qv_prenex_laws.proofs.UnderConstants.{prenex-under-constants}
use Rattle.qv_prenex_laws.proofs.laws.prenex_under_constants.Goals as goal

pub returns : goal.returns
returns _ = prenex-under-constants
