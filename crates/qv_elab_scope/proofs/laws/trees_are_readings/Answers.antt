use Rattle.qv_elab_scope.proofs.Defined.{trees-are-readings}
use Rattle.qv_elab_scope.proofs.laws.trees_are_readings.Goals as goal

pub returns : goal.returns
returns _ = trees-are-readings
