use Rattle.qv_words.proofs.Chosen.{one-choice}
use Rattle.qv_words.proofs.definition_laws.one_choice.Goals as goal

pub returns : goal.returns
returns _ = one-choice
