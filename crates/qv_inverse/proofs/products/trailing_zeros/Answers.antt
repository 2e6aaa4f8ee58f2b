use Rattle.std.proofs.Common.{ℕ, ◌<◌, ◌^◌, min, ap, ◌∙◌, arith}
use Rattle.std.specs.Int.{w128, trailing_zeros}
use Rattle.std.proofs.lemmas.Nat.Bits.{bit_at-trailing_zeros}
use Rattle.qv_inverse.proofs.Newton.{zeros-min}
use Rattle.qv_inverse.proofs.products.trailing_zeros.Goals as goal

pub returns-clause-count : goal.returns-clause-count
returns-clause-count c =
    c.min.ensures
    ∙ ap (λ (m : ℕ). min m (trailing_zeros w128 c.args.n)) c.from.ensures
    ∙ zeros-min 128 c.args.most c.args.n c.requires.high

pub returns-clause-below : goal.returns-clause-below
returns-clause-below c =
    let fits : c.args.n < 2 ^ 128 = c.ranges.n.fits in
    let some : 0 < c.args.n = omega arith in
    omega (arith, (bit_at-trailing_zeros w128 c.args.n some fits).0)
