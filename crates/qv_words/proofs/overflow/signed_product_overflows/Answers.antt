use Rattle.qv_words.proofs.TwosComplement.{product_of_alike, product_of_others, product_past}
use Rattle.qv_words.proofs.overflow.signed_product_overflows.Goals as goal

pub returns-in-None : goal.returns-in-None
returns-in-None c =
    product_past c.args.width c.args.a c.args.b c.absolute.result c.absolute-2.result c.requires.low c.requires.high c.requires.first c.requires.second
    c.absolute.ensures.value c.absolute-2.ensures.value c.in-None.ensures

pub returns-then-is_below_zero : goal.returns-then-is_below_zero
returns-then-is_below_zero c =
    product_of_alike c.args.width c.args.a c.args.b c.sign_bit.result c.in-Some.product c.absolute.result c.absolute-2.result c.is_below_zero.result c.is_below_zero-2.result
    c.requires.low c.requires.first c.requires.second c.is_below_zero.ensures c.is_below_zero-2.ensures c.sign_bit.ensures c.in-Some.ensures.1 c.absolute.ensures.value c.absolute-2.ensures.value c.if-is_below_zero.true

pub returns-else-is_below_zero : goal.returns-else-is_below_zero
returns-else-is_below_zero c =
    product_of_others c.args.width c.args.a c.args.b c.sign_bit-else-is_below_zero.result c.in-Some.product c.absolute.result c.absolute-2.result c.is_below_zero.result c.is_below_zero-2.result
    c.requires.low c.requires.first c.requires.second c.is_below_zero.ensures c.is_below_zero-2.ensures c.sign_bit-else-is_below_zero.ensures c.in-Some.ensures.1 c.absolute.ensures.value c.absolute-2.ensures.value c.if-is_below_zero.false
