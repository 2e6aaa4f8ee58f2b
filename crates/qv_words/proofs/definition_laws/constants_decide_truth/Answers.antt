use Rattle.qv_words.proofs.Together.{constants-decide}
use Rattle.qv_words.proofs.definition_laws.constants_decide_truth.Goals as goal

pub returns : goal.returns
returns _ = constants-decide
