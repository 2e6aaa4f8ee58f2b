use Rattle.qv_words.proofs.Powers.{ones-shr}
use Rattle.qv_rewrite_sums.proofs.numbers.ones.Goals as goal

pub returns : goal.returns
returns c = ones-shr c.args.width 128 c.requires.high
