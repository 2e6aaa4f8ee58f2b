use Rattle.qv_words.proofs.Together.{fixed-truth}
use Rattle.qv_words.proofs.definition_laws.fixed_truth.Goals as goal

pub returns : goal.returns
returns _ = fixed-truth
