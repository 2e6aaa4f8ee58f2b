use Rattle.qv_words.proofs.TwosComplement.{sum_outside}
use Rattle.qv_words.proofs.overflow.signed_sum_overflows.Goals as goal

pub returns-then-below-is_below_zero : goal.returns-then-below-is_below_zero
returns-then-below-is_below_zero c =
    sum_outside c.args.width c.args.a c.args.b c.sum.result c.is_below_zero-below.result c.is_below_zero.result c.is_below_zero-then-below-is_below_zero.result
    c.requires.low c.requires.first c.requires.second c.is_below_zero-below.ensures c.is_below_zero.ensures c.sum.ensures.value c.is_below_zero-then-below-is_below_zero.ensures c.if-below-is_below_zero.true
