use Rattle.qv_lrat_text.proofs.LineGrammar.{line_is_text}
use Rattle.qv_lrat_text.proofs.laws.line_is_text.Goals as goal

pub returns : goal.returns
returns c = λ text line. line_is_text text line
