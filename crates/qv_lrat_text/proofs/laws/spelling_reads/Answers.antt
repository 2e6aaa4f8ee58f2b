use Rattle.qv_lrat_text.proofs.LineLemmas.{lrat_line-spelling}
use Rattle.qv_lrat_text.proofs.laws.spelling_reads.Goals as goal

pub returns : goal.returns
returns c = λ line range. lrat_line-spelling line range
