use Rattle.qv_words.proofs.Replaced.{replacement-keeps_sorted}
use Rattle.qv_words.proofs.laws.replacement_keeps_sorted.Goals as goal

pub returns : goal.returns
returns _ = replacement-keeps_sorted
