use Rattle.qv_game_laws.proofs.Paths.{drawn-is_longer}
use Rattle.qv_game_laws.proofs.laws.drawn_is_longer.Goals as goal

pub returns : goal.returns
returns _ = drawn-is_longer
