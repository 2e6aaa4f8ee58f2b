use Rattle.std.proofs.Common.{◌<◌, Bool, false, Some, length, get_or, ap, ◌∙◌, arith}
use Rattle.qv_trim.proofs.Marked.{named-result, closed-result, named-none, closed-passed, get-there}
use Rattle.qv_trim.proofs.marking.follow_marked.Goals as goal

pub returns-then-marks-at-clause-named : goal.returns-then-marks-at-clause-named
returns-then-marks-at-clause-named c =
    let below : c.args.at < length c.args.marks.now = omega (arith, c.requires.place, c.requires.each) in
    named-result c.args.text.now c.args.entries.now c.args.at c.args.marks.now c.follow.new.marks c.follow.result c.follow.ensures (get-there c.args.marks.now c.args.at false below ∙ ap (λ (b : Bool). Some b) c.if-marks-at.true)

pub returns-then-marks-at-clause-closed : goal.returns-then-marks-at-clause-closed
returns-then-marks-at-clause-closed c = closed-result c.args.text.now c.args.entries.now c.args.at c.args.marks.now c.follow.new.marks c.follow.result c.follow.ensures

pub returns-else-marks-at-clause-named : goal.returns-else-marks-at-clause-named
returns-else-marks-at-clause-named c = named-none c.args.text.now c.args.entries.now c.args.marks.now

pub returns-else-marks-at-clause-closed : goal.returns-else-marks-at-clause-closed
returns-else-marks-at-clause-closed c = λ none closed.
    (let below : c.args.at < length c.args.marks.now = omega (arith, c.requires.place, c.requires.each) in
    closed-passed c.args.text.now c.args.entries.now c.args.at c.args.marks.now (get_or c.args.marks.now c.args.at false) (get-there c.args.marks.now c.args.at false below) c.if-marks-at.false closed)
