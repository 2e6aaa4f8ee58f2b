use Rattle.qv_game_laws.proofs.ChosenTerms.{chosen-are_terms}
use Rattle.qv_game_laws.proofs.laws.chosen_are_terms.Goals as goal

pub returns : goal.returns
returns _ = chosen-are_terms
