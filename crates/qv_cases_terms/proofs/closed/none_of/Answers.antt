use Rattle.std.proofs.Common.{◌≡◌, ℕ, false, get_or, ap, sym, ◌∙◌}
use Rattle.qv_cases_terms.proofs.Marks.{all-more, all-whole}
use Rattle.qv_cases_terms.proofs.closed.none_of.Goals as goal

pub each-preserved : goal.each-preserved
each-preserved c =
    all-more (λ id. get_or c.args.free.now id false ≡ false) c.args.ids.now c.each.id-index c.id-item.result c.each-test.true c.id-item.is
    (sym (ap (λ (n : ℕ). get_or c.args.free.now n false) c.number.ensures) ∙ c.if-free-number.false) c.each.invariant

pub returns : goal.returns
returns c = λ h. all-whole (λ id. get_or c.args.free.now id false ≡ false) c.args.ids.now c.each.id-index c.each-test.false c.each.invariant
