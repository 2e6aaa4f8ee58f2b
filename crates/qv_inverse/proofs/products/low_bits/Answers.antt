use Rattle.std.proofs.Common.{◌/◌, ◌-◌, ◌^◌}
use Rattle.qv_words.proofs.Powers.{masked, ones-shr}
use Rattle.qv_inverse.proofs.products.low_bits.Goals as goal

pub returns : goal.returns
returns c =
    masked c.args.n c.args.width ((2 ^ 128 - 1) / 2 ^ (128 - c.args.width)) (ones-shr c.args.width 128 c.requires.high)
