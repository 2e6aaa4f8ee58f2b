use Rattle.qv_meter.proofs.Following.{forced-is_followed}
use Rattle.qv_meter.proofs.laws.forced_is_followed.Goals as goal

pub returns : goal.returns
returns _ = forced-is_followed
