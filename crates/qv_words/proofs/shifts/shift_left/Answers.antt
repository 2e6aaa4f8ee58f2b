use Rattle.std.proofs.Common.{◌∙◌}
use Rattle.qv_words.proofs.Powers.{shifted_within}
use Rattle.qv_words.proofs.shifts.shift_left.Goals as goal

pub returns-clause-value : goal.returns-clause-value
returns-clause-value c = c.low_bits.ensures.value ∙ shifted_within c.args.width c.args.a c.args.b c.requires.high c.if-b-width.false
