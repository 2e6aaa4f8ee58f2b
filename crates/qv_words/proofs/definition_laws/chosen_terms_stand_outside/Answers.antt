use Rattle.qv_words.proofs.Chosen.{terms-outside}
use Rattle.qv_words.proofs.definition_laws.chosen_terms_stand_outside.Goals as goal

pub returns : goal.returns
returns _ = terms-outside
