use Rattle.qv_cert.specs.Lines.{lines_left}
use Rattle.qv_lrat.proofs.Turns.{turn-goes, turn-ends, ends-there}
use Rattle.qv_lrat.proofs.judging.judge_line.Goals as goal

pub returns-clause-end : goal.returns-clause-end
returns-clause-end g c =
    let told = rw c.if-not-branch.false at c.in_ok-next_line.ensures.gives in
    let turn = rw c.line.ensures at c.in_ok-judge_text.ensures in
    turn-ends c.args.number c.args.checker.now c.judge_text.new.checker c.next_line.new.lines.line c.in_ok-judge_text.field-0 (lines_left c.args.lines.now.rest (g.C.Source.left c.args.proof.now))
    (lines_left c.next_line.new.lines.rest (g.C.Source.left c.next_line.new.proof)) told turn

pub returns-clause-goes : goal.returns-clause-goes
returns-clause-goes g c =
    let told = rw c.if-not-branch.false at c.in_ok-next_line.ensures.gives in
    let turn = rw c.line.ensures at c.in_ok-judge_text.ensures in
    turn-goes c.args.number c.args.checker.now c.judge_text.new.checker c.next_line.new.lines.line c.in_ok-judge_text.field-0 (lines_left c.args.lines.now.rest (g.C.Source.left c.args.proof.now))
    (lines_left c.next_line.new.lines.rest (g.C.Source.left c.next_line.new.proof)) told turn

pub returns-then-not-branch-clause-end : goal.returns-then-not-branch-clause-end
returns-then-not-branch-clause-end g c =
    let none = rw c.if-not-branch.true at c.in_ok-next_line.ensures.gives in
    ends-there c.args.number c.args.checker.now c.at_end.result (lines_left c.args.lines.now.rest (g.C.Source.left c.args.proof.now)) none (c.at_end.ensures c.args.checker.now c.is_refuted.ensures.refuted)
