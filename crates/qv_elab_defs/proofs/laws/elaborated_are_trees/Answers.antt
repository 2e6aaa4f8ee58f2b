use Rattle.qv_elab_defs.proofs.ElaboratedTrees.{elaborated-are_trees}
use Rattle.qv_elab_defs.proofs.laws.elaborated_are_trees.Goals as goal

pub returns : goal.returns
returns _ = elaborated-are_trees
