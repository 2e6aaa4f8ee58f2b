use Rattle.qv_cert.specs.LineView.{cert_line_of}
use Rattle.qv_trim.specs.Texts.{ReadsOutside}
use Rattle.qv_trim.proofs.Lines.{none-read, stands-there}
use Rattle.qv_trim.proofs.texts.outer_at.Goals as goal

pub returns-in-None : goal.returns-in-None
returns-in-None c = none-read ReadsOutside c.args.text.now c.args.at c.in-Some.line.now _ c.in-Some.ensures.0 (rw c.in-None.is at c.in_ok-said.ensures)

pub returns-in-Some-2 : goal.returns-in-Some-2
returns-in-Some-2 c =
    let own = rw c.in-Some-2.is at c.in_ok-said.ensures in
    (stands-there ReadsOutside c.args.text.now c.args.at c.in-Some.line.now (cert_line_of c.in-Some-2.said) c.in-Some.ensures.0 c.in-Some.ensures.1 own.0, own.1)
