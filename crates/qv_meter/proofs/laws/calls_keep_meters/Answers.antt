use Rattle.qv_meter.proofs.Keeping.{calls-keep_meters}
use Rattle.qv_meter.proofs.laws.calls_keep_meters.Goals as goal

pub returns : goal.returns
returns _ = calls-keep_meters
