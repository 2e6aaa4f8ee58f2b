use Rattle.qv_game_laws.proofs.GameSteps.{owned-terms}
use Rattle.qv_game_laws.proofs.laws.owned_terms.Goals as goal

pub returns : goal.returns
returns _ = owned-terms
