use Rattle.qv_words.proofs.Together.{assertions-truth}
use Rattle.qv_words.proofs.definition_laws.assertions_mean_truth.Goals as goal

pub returns : goal.returns
returns _ = assertions-truth
