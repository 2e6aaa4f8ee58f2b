use Rattle.qv_lrat.proofs.Turns.{turn-on, turn-refused}
use Rattle.qv_lrat.proofs.judging.judge_text.Goals as goal

pub returns-in-Some : goal.returns-in-Some
returns-in-Some c =
    let taken = rw c.in-Some.is at c.in_ok-kind.ensures in
    turn-refused c.args.number c.args.checker.now c.take_line.new.checker c.args.text.now c.in-Some.kind taken

pub returns-in-None : goal.returns-in-None
returns-in-None c =
    let taken = rw c.in-None.is at c.in_ok-kind.ensures in
    turn-on c.args.number c.args.checker.now c.take_line.new.checker c.args.text.now taken
