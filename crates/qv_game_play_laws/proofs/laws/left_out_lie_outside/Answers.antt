use Rattle.qv_game_play_laws.proofs.Queries.{left-out_lie_outside}
use Rattle.qv_game_play_laws.proofs.laws.left_out_lie_outside.Goals as goal

pub returns : goal.returns
returns _ = left-out_lie_outside
