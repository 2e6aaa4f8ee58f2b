use Rattle.qv_lrat_text.proofs.WordGrammar.{words_are_spaced}
use Rattle.qv_lrat_text.proofs.laws.words_are_spaced.Goals as goal

pub returns : goal.returns
returns c = λ text found. words_are_spaced text found
