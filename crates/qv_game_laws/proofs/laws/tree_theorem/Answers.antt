use Rattle.qv_game_laws.proofs.TreeTheorem.{tree-theorem}
use Rattle.qv_game_laws.proofs.laws.tree_theorem.Goals as goal

pub returns : goal.returns
returns _ = tree-theorem
