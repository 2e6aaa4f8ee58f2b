use Rattle.qv_elab_scope.proofs.Defined.{sorts-are-kept}
use Rattle.qv_elab_scope.proofs.laws.sorts_are_kept.Goals as goal

pub returns : goal.returns
returns _ = sorts-are-kept
