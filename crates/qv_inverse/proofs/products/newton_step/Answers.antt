use Rattle.std.proofs.Common.{◌∙◌}
use Rattle.qv_inverse.proofs.Newton.{step}
use Rattle.qv_inverse.proofs.products.newton_step.Goals as goal

pub returns : goal.returns
returns c =
    c.low_bits.ensures ∙ step c.args.width c.args.odd c.args.inverse c.low_bits-product.result c.requires.high c.low_bits-product.ensures
