use Rattle.qv_choose.proofs.Parts.{conjuncts-take}
use Rattle.qv_choose.proofs.laws.conjuncts_take_terms.Goals as goal

pub returns : goal.returns
returns _ = conjuncts-take
