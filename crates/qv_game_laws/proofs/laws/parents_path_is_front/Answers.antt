use Rattle.qv_game_laws.proofs.Paths.{parents-path_is_front}
use Rattle.qv_game_laws.proofs.laws.parents_path_is_front.Goals as goal

pub returns : goal.returns
returns _ = parents-path_is_front
