use Rattle.qv_words.proofs.Together.{parts-true}
use Rattle.qv_words.proofs.definition_laws.parts_are_true.Goals as goal

pub returns : goal.returns
returns _ = parts-true
