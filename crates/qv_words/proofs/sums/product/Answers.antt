use Rattle.std.proofs.Common.{◌*◌, ◌∙◌}
use Rattle.qv_words.proofs.Powers.{mod-mod_pow}
use Rattle.qv_words.proofs.sums.product.Goals as goal

pub returns-clause-value : goal.returns-clause-value
returns-clause-value c = c.low_bits.ensures.value ∙ mod-mod_pow (c.args.a * c.args.b) c.args.width 128 c.requires.high
