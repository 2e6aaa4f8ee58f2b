use Rattle.qv_cases_terms.proofs.Marks.{may-be-posed, some-more}
use Rattle.qv_cases_terms.proofs.posable.may_be_posed.Goals as goal

pub returns : goal.returns
returns c =
    some-more c.are_closed.result c.are_closed.ensures
    (λ closed. may-be-posed c.args.sorts.now c.args.store.now 8 c.args.ids.now c.len-few.ensures.shared
    (c.are_formulas.ensures c.if-not-are_formulas.false) (c.are_leaves.ensures c.if-not-are_leaves.false) closed)
