use Rattle.qv_game_play_laws.proofs.Moves.{owned-is_played}
use Rattle.qv_game_play_laws.proofs.laws.owned_is_played.Goals as goal

pub returns : goal.returns
returns _ = owned-is_played
