use Rattle.qv_meter.proofs.Positions.{within, apart}
use Rattle.qv_meter.proofs.laws.lanes_have_positions.Goals as goal

pub returns : goal.returns
returns _ p a b ha hb = (within p a ha, apart p a b ha hb)
