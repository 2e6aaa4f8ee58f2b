use Rattle.std.proofs.Common.{◌≡◌, ℕ, ◌+◌, ◌≤◌, Option, Some, length, subst, arith}
use Rattle.std.specs.Prelude.{IfSome, slice_get}
use Rattle.qv_cnf.specs.LratLine.{line_of}
use Rattle.qv_closed.specs.Cores.{IsAddedTo}
use Rattle.qv_closed.proofs.LaidSteps.{found-there, laying-all, laying-next, laying-start, lines-have_ids}
use Rattle.qv_closed.proofs.laying.lay.Goals as goal

pub laid-init : goal.laid-init
laid-init c = laying-start c.args.core.now c.args.steps.now c.args.first c.requires.none c.requires.next c.requires.few c.requires.ids

pub lay_one-requires : goal.lay_one-requires
lay_one-requires c = c.laid.invariant.top

pub laid-preserved : goal.laid-preserved
laid-preserved c =
    let at : slice_get c.args.steps.now c.laid.step-index ≡ Some c.step-item.result = found-there c.args.steps.now c.laid.step-index c.step-item.result c.laid-test.true c.step-item.is in
    laying-next c.args.core.now c.laid.core c.lay_one.new.core c.args.steps.now c.laid.step-index (c.laid.step-index + 1) c.laid.next c.in-Some.behind c.step-item.result at (omega arith) c.laid.invariant
    (subst (λ (o : Option ℕ). IfSome o (λ id. IsAddedTo c.laid.core (line_of c.step-item.result) id c.lay_one.new.core)) c.in-Some.is c.in_ok-behind.ensures)

pub returns-clause-fed : goal.returns-clause-fed
returns-clause-fed c =
    let end : length c.args.steps.now ≤ c.laid.step-index = omega (arith, c.laid-test.false) in
    laying-all c.args.core.now c.laid.core c.args.steps.now c.laid.step-index c.laid.next end c.laid.invariant

pub returns-clause-ids : goal.returns-clause-ids
returns-clause-ids c = lines-have_ids c.args.steps.now (c.have_ids.ensures.0 c.if-not-have_ids.false)

pub returns-clause-next : goal.returns-clause-next
returns-clause-next c = c.laid.invariant.top
