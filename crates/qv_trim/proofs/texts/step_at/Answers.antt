use Rattle.qv_cnf.specs.LratLine.{line_of}
use Rattle.qv_trim.specs.Texts.{ReadsStep}
use Rattle.qv_trim.proofs.Lines.{none-read, stands-there}
use Rattle.qv_trim.proofs.texts.step_at.Goals as goal

pub returns-in-None : goal.returns-in-None
returns-in-None c = none-read ReadsStep c.args.text.now c.args.at c.in-Some.line.now _ c.in-Some.ensures.0 (rw c.in-None.is at c.in_ok-step.ensures)

pub returns-in-Some-2 : goal.returns-in-Some-2
returns-in-Some-2 c =
    let own = rw c.in-Some-2.is at c.in_ok-step.ensures in
    (stands-there ReadsStep c.args.text.now c.args.at c.in-Some.line.now (line_of c.in-Some-2.step) c.in-Some.ensures.0 c.in-Some.ensures.1 own.0, own.1)
