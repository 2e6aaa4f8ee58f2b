use Rattle.qv_cases_terms.specs.Posable.{IsFormulaAt}
use Rattle.qv_cases_terms.proofs.Marks.{all-more, all-whole}
use Rattle.qv_cases_terms.proofs.posable.are_formulas.Goals as goal

pub each-preserved : goal.each-preserved
each-preserved c =
    all-more (IsFormulaAt c.args.store.now) c.args.ids.now c.each.id-index c.id-item.result c.each-test.true c.id-item.is
    (c.is_formula.ensures c.if-not-is_formula.false) c.each.invariant

pub returns : goal.returns
returns c = λ h. all-whole (IsFormulaAt c.args.store.now) c.args.ids.now c.each.id-index c.each-test.false c.each.invariant
