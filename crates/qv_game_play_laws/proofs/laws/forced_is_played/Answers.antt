use Rattle.qv_game_play_laws.proofs.Moves.{forced-is_played}
use Rattle.qv_game_play_laws.proofs.laws.forced_is_played.Goals as goal

pub returns : goal.returns
returns _ = forced-is_played
