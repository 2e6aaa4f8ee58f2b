use Rattle.qv_game_laws.proofs.ChosenTerms.{candidates-are_terms}
use Rattle.qv_game_laws.proofs.laws.candidates_are_terms.Goals as goal

pub returns : goal.returns
returns _ = candidates-are_terms
