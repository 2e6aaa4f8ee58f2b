use Rattle.std.proofs.Common.{◌∙◌, ◌+◌, sym, arith}
use Rattle.qv_words.proofs.Powers.{pow_le}
use Rattle.qv_words.proofs.TwosComplement.{extended-negative, extended-other}
use Rattle.qv_words.proofs.parts.extend_signed.Goals as goal

pub complement-requires-then-is_below_zero-clause-value : goal.complement-requires-then-is_below_zero-clause-value
complement-requires-then-is_below_zero-clause-value c =
    omega (arith, c.complement.ensures.below, pow_le c.args.width (c.args.width + c.args.more) (omega arith))

pub returns-then-is_below_zero-clause-value : goal.returns-then-is_below_zero-clause-value
returns-then-is_below_zero-clause-value c =
    c.complement-then-is_below_zero.ensures.value ∙ rw c.complement.ensures.value (extended-negative c.args.width c.args.more c.args.a c.requires.value (sym c.if-is_below_zero.ensures))

pub returns-else-is_below_zero-clause-value : goal.returns-else-is_below_zero-clause-value
returns-else-is_below_zero-clause-value c = extended-other c.args.width c.args.more c.args.a c.requires.value (sym c.if-is_below_zero.ensures)

pub returns-else-is_below_zero-clause-below : goal.returns-else-is_below_zero-clause-below
returns-else-is_below_zero-clause-below c =
    omega (arith, c.requires.value, pow_le c.args.width (c.args.width + c.args.more) (omega arith))
