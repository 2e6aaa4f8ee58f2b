use Rattle.qv_elab_scope.proofs.Defined.{definitions-are-kept}
use Rattle.qv_elab_scope.proofs.laws.definitions_are_kept.Goals as goal

pub returns : goal.returns
returns _ = definitions-are-kept
