use Rattle.qv_words.proofs.Replacing.{replacement-keeps_meaning}
use Rattle.qv_words.proofs.laws.replacement_keeps_meaning.Goals as goal

pub returns : goal.returns
returns _ = replacement-keeps_meaning
