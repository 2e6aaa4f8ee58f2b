use Rattle.qv_game_laws.proofs.GameSteps.{owned-step}
use Rattle.qv_game_laws.proofs.laws.owned_step.Goals as goal

pub returns : goal.returns
returns _ = owned-step
