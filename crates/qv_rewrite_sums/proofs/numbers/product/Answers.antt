use Rattle.std.proofs.Common.{◌*◌, ◌∙◌}
use Rattle.qv_words.proofs.Powers.{mod-mod_pow}
use Rattle.qv_rewrite_sums.proofs.numbers.product.Goals as goal

pub returns : goal.returns
returns c = c.low_bits.ensures ∙ mod-mod_pow (c.args.a * c.args.b) c.args.width 128 c.requires.high
