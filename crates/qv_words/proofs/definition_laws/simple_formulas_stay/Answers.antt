use Rattle.qv_words.proofs.Passed.{simple-stays}
use Rattle.qv_words.proofs.Simplest.{stays-simple}
use Rattle.qv_words.proofs.definition_laws.simple_formulas_stay.Goals as goal

pub returns : goal.returns
returns _ t = (λ h r. simple-stays r t h, stays-simple t)
