use Rattle.qv_meter.proofs.Conflicts.{counts}
use Rattle.qv_meter.proofs.laws.conflicts_are_counted.Goals as goal

pub returns : goal.returns
returns _ m base steps id lits hints kept may derivation below = counts m base steps id lits hints may derivation below
