use Rattle.qv_game_play_laws.proofs.Complement.{complement-is_played}
use Rattle.qv_game_play_laws.proofs.laws.complement_is_played.Goals as goal

pub returns : goal.returns
returns _ = complement-is_played
