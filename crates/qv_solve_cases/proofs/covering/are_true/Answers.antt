use Rattle.std.proofs.Common.{[]}
use Rattle.qv_entries.specs.Holding.{IsAskable}
use Rattle.qv_cases_terms.proofs.Marks.{all-more, all-whole}
use Rattle.qv_solve_cases.proofs.covering.are_true.Goals as goal

pub each-preserved : goal.each-preserved
each-preserved c =
    all-more (IsAskable c.args.store.now []) c.args.ids.now c.each.id-index c.id-item.result c.each-test.true c.id-item.is
    (c.is_true.ensures c.if-not-is_true.false) c.each.invariant

pub returns : goal.returns
returns c = λ h. all-whole (IsAskable c.args.store.now []) c.args.ids.now c.each.id-index c.each-test.false c.each.invariant
