use Rattle.qv_game_play_laws.proofs.Queries.{answers-lie_outside}
use Rattle.qv_game_play_laws.proofs.laws.answers_lie_outside.Goals as goal

pub returns : goal.returns
returns _ = answers-lie_outside
