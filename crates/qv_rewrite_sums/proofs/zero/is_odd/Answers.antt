use Rattle.std.proofs.Common.{◌%◌, ◌==◌, Bool, not, ◌&&◌, refl, ap, sym, ◌∙◌}
use Rattle.qv_rewrite_sums.proofs.Odd.{total}
use Rattle.qv_rewrite_sums.proofs.Tests.{odd-tests}
use Rattle.qv_rewrite_sums.proofs.zero.is_odd.Goals as goal

pub returns-then-not-some_odd : goal.returns-then-not-some_odd
returns-then-not-some_odd c = λ trees.
    sym (ap (λ (b : Bool). not b && c.total_is_odd.result) c.if-not-some_odd.true)
    ∙ odd-tests trees c.args.sum.now c.some_odd.result c.total_is_odd.result c.some_odd.ensures (c.total_is_odd.ensures trees)

pub returns-else-not-some_odd : goal.returns-else-not-some_odd
returns-else-not-some_odd c = λ trees.
    let odd : Bool = total trees c.args.sum.now % 2 == 1 in
    ap not c.if-not-some_odd.false ∙ sym (ap (λ (b : Bool). not b && odd) c.if-not-some_odd.false)
    ∙ odd-tests trees c.args.sum.now c.some_odd.result odd c.some_odd.ensures refl
