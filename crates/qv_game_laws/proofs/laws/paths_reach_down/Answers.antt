use Rattle.qv_game_laws.proofs.PathDepths.{paths-reach_down}
use Rattle.qv_game_laws.proofs.laws.paths_reach_down.Goals as goal

pub returns : goal.returns
returns _ = paths-reach_down
