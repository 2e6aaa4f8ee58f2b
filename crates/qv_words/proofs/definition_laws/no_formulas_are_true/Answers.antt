use Rattle.qv_words.proofs.Together.{none-true}
use Rattle.qv_words.proofs.definition_laws.no_formulas_are_true.Goals as goal

pub returns : goal.returns
returns _ = none-true
