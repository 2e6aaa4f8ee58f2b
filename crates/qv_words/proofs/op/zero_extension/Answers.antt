use Rattle.std.proofs.Common.{◌+◌, arith, lt_of_lt_of_le}
use Rattle.qv_words.specs.Sort.{width_of}
use Rattle.qv_words.specs.Word.{word_sort}
use Rattle.qv_words.proofs.Powers.{pow_le}
use Rattle.qv_words.proofs.op.zero_extension.Goals as goal

pub of-requires-clause-in_range : goal.of-requires-clause-in_range
of-requires-clause-in_range c =
    rw (c.value.ensures, c.width-width.ensures, c.sort.ensures)
    (lt_of_lt_of_le c.args.a.in_range (pow_le (width_of (word_sort c.args.a)) (width_of (word_sort c.args.a) + c.args.more) (omega arith)))
