use Rattle.std.proofs.Common.{◌≡◌, ◌+◌, ◌≤◌, Some, length, sym, ◌∙◌, arith}
use Rattle.std.specs.Prelude.{slice_get}
use Rattle.qv_cert_nodes.proofs.Kept.{found-there}
use Rattle.qv_solve_refute.proofs.Tried.{trying-all, trying-next, trying-stops}
use Rattle.qv_solve_refute.proofs.trying.take_all.Goals as goal

pub returns-then-not-branch : goal.returns-then-not-branch
returns-then-not-branch c =
    let at : slice_get c.args.steps.now c.steps.step-index ≡ Some c.step-item.result = found-there c.args.steps.now c.steps.step-index c.step-item.result c.steps-test.true c.step-item.is in
    sym (trying-stops c.args.checker.now c.args.steps.now c.steps.step-index c.step-item.result c.steps.checker c.take.new.checker c.in_ok-take.field-0 at c.steps.invariant c.if-not-branch.true c.in_ok-take.ensures)

pub steps-preserved : goal.steps-preserved
steps-preserved c =
    let at : slice_get c.args.steps.now c.steps.step-index ≡ Some c.step-item.result = found-there c.args.steps.now c.steps.step-index c.step-item.result c.steps-test.true c.step-item.is in
    trying-next c.args.checker.now c.args.steps.now c.steps.step-index (c.steps.step-index + 1) c.step-item.result c.steps.checker c.take.new.checker c.in_ok-take.field-0 at (omega arith) c.steps.invariant
    c.if-not-branch.false c.in_ok-take.ensures

pub returns : goal.returns
returns c =
    let end : length c.args.steps.now ≤ c.steps.step-index = omega (arith, c.steps-test.false) in
    c.is_refuted.ensures.refuted ∙ sym (trying-all c.args.checker.now c.args.steps.now c.steps.step-index c.steps.checker end c.steps.invariant)
