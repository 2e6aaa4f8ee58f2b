use Rattle.std.proofs.Common.{◌≡◌, ◌+◌, ◌≤◌, ◌++◌, Some, List, length, slice_get, sym, ap, ◌∙◌, append-nil, arith}
use Rattle.std.proofs.lemmas.List.{length-map, take_all}
use Rattle.qv_cnf.specs.LratLine.{LratLine, line_of, lines_of}
use Rattle.qv_closed.proofs.LaidSteps.{copied-next, found-there}
use Rattle.qv_closed.proofs.copies.push_copies.Goals as goal

pub copied-init : goal.copied-init
copied-init c = sym (append-nil (lines_of c.args.into.now.items))

pub copied-preserved : goal.copied-preserved
copied-preserved c =
    let at : slice_get c.args.steps.now c.copied.step-index ≡ Some c.step-item.result = found-there c.args.steps.now c.copied.step-index c.step-item.result c.copied-test.true c.step-item.is in
    copied-next (lines_of c.args.into.now.items) c.args.steps.now c.copied.into.items c.push.new.self.items c.copied.step-index (c.copied.step-index + 1) c.step-item.result c.in_ok-copy.copy at (omega arith) c.in_ok-push.ensures.items c.in_ok-copy.ensures c.copied.invariant

pub returns : goal.returns
returns c =
    let steps = c.args.steps.now in
    let count = length-map steps line_of in
    let end : length (lines_of steps) ≤ c.copied.step-index = omega (arith, count, c.copied-test.false) in
    c.copied.invariant ∙ ap (λ (ls : List LratLine). lines_of c.args.into.now.items ++ ls) (take_all c.copied.step-index (lines_of steps) end)
