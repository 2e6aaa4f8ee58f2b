use Rattle.qv_elab_defs.proofs.ElaboratedTrees.{scoped-sorts-are-lawful}
use Rattle.qv_elab_defs.proofs.laws.scoped_sorts_are_lawful.Goals as goal

pub returns : goal.returns
returns _ = scoped-sorts-are-lawful
