use Rattle.qv_game_laws.proofs.GameSteps.{forced-step}
use Rattle.qv_game_laws.proofs.laws.forced_step.Goals as goal

pub returns : goal.returns
returns _ = forced-step
