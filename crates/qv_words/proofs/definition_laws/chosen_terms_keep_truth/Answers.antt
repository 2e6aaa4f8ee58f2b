use Rattle.qv_words.proofs.Chosen.{terms-keep_truth}
use Rattle.qv_words.proofs.definition_laws.chosen_terms_keep_truth.Goals as goal

pub returns : goal.returns
returns _ = terms-keep_truth
