use Rattle.std.proofs.Common.{◌*◌}
use Rattle.qv_words.proofs.Powers.{over_all}
use Rattle.qv_words.proofs.overflow.product_overflows.Goals as goal

pub returns-in-None : goal.returns-in-None
returns-in-None c = over_all c.args.width (c.args.a * c.args.b) c.requires.high c.in-None.ensures
