use Rattle.qv_game_laws.proofs.Paths.{paths-stay}
use Rattle.qv_game_laws.proofs.laws.paths_stay.Goals as goal

pub returns : goal.returns
returns _ = paths-stay
