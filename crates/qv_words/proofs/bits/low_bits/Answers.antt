use Rattle.qv_words.proofs.Powers.{masked}
use Rattle.qv_words.proofs.bits.low_bits.Goals as goal

pub returns-clause-value : goal.returns-clause-value
returns-clause-value c = masked c.args.x c.args.width c.ones.result c.ones.ensures
