use Rattle.qv_elab_scope.proofs.Defined.{constants-are-kept}
use Rattle.qv_elab_scope.proofs.laws.constants_are_kept.Goals as goal

pub returns : goal.returns
returns _ = constants-are-kept
