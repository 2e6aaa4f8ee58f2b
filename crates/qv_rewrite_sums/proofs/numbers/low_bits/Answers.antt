use Rattle.qv_words.proofs.Powers.{masked}
use Rattle.qv_rewrite_sums.proofs.numbers.low_bits.Goals as goal

pub returns : goal.returns
returns c = masked c.args.x c.args.width c.ones.result c.ones.ensures
