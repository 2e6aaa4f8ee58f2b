use Rattle.qv_meter.proofs.Differing.{only-conflicts_differ}
use Rattle.qv_meter.proofs.laws.only_conflicts_differ.Goals as goal

pub returns : goal.returns
returns _ = only-conflicts_differ
