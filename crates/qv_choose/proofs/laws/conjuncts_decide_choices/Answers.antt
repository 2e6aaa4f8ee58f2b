use Rattle.qv_choose.proofs.ByConjuncts.{conjuncts-decide}
use Rattle.qv_choose.proofs.laws.conjuncts_decide_choices.Goals as goal

pub returns : goal.returns
returns _ = conjuncts-decide
