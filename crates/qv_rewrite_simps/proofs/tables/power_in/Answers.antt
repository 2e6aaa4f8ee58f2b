use Rattle.std.proofs.Common.{ℕ, ◌<◌, Some, ap, ◌∙◌, subst, arith}
use Rattle.std.specs.Int.{w128, trailing_zeros}
use Rattle.qv_words.specs.Sort.{width_of}
use Rattle.qv_rewrite_simps.proofs.Powering.{power-found, power-none}
use Rattle.qv_rewrite_simps.proofs.tables.power_in.Goals as goal
use Rattle.qv_rewrite_simps.proofs.tables.power_in.Goals.{else-k-from-via-then-k-from+else-n-k, else-k-from-via-else-k-from}

pub returns-then-n-k : goal.returns-then-n-k
returns-then-n-k c =
    let w = width_of c.args.sort in
    let k = trailing_zeros w128 c.args.n in
    let low : k < w = subst (λ (m : ℕ). k < m) (c.from.ensures ∙ c.width.ensures) c.if-k-from.true in
    ap Some c.from-then-n-k.ensures ∙ power-found w c.args.n k c.requires.1 low c.if-n-k.true

pub returns-else-k-from : goal.returns-else-k-from
returns-else-k-from c = power-none (width_of c.args.sort) c.args.n c.requires.1 (λ low is. elim c.else-k-from.branch [
  | else-k-from-via-then-k-from+else-n-k w ↦ w.if-n-k.false is
  | else-k-from-via-else-k-from w ↦ omega (arith, low, w.if-k-from.false, c.from.ensures, c.width.ensures)
])
