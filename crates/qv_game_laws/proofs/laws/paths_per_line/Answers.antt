use Rattle.qv_game_laws.proofs.Paths.{paths-per_line}
use Rattle.qv_game_laws.proofs.laws.paths_per_line.Goals as goal

pub returns : goal.returns
returns _ = paths-per_line
