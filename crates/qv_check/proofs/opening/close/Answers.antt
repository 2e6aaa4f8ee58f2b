use Rattle.std.proofs.Common.{refl, arith}
use Rattle.qv_cert.specs.CertReader.{to_give}
use Rattle.qv_cert.specs.Section.{Closing}
use Rattle.qv_cert.specs.LineView.{cert_line_of}
use Rattle.qv_check.proofs.Opened.{closed, closing-kind}
use Rattle.qv_check.proofs.Ended.{closed-closes, closed-ends, closed-took}
use Rattle.qv_check.proofs.opening.close.Goals as goal

pub returns-in-Ok-clause-verdict : goal.returns-in-Ok-clause-verdict
returns-in-Ok-clause-verdict g c task =
    closed task c.args.reader.now.given c.next_line.new.reader.given c.in-Ok.next.number (to_give c.args.reader.now.rest (g.S.Source.left c.args.source.now))
    (to_give c.next_line.new.reader.rest (g.S.Source.left c.next_line.new.source)) c.in-Ok.next.line c.take_end.result c.in-Ok.ensures.number c.in-Ok.ensures.given c.in-Ok.ensures.line (c.take_end.ensures task)

pub returns-in-Err-clause-verdict : goal.returns-in-Err-clause-verdict
returns-in-Err-clause-verdict g c task = c.in-Err.ensures.err task Closing refl (closing-kind task)

pub returns-in-Ok-clause-ends : goal.returns-in-Ok-clause-ends
returns-in-Ok-clause-ends g c =
    closed-ends c.in-Ok.next.number c.take_end.result (g.S.Source.faults c.args.source.now) (g.S.Source.faults c.next_line.new.source) c.next_line.new.reader
    (record { begun = omega (arith, c.in-Ok.ensures.given); reads = c.in-Ok.ensures.goes_on; short = c.in-Ok.ensures.short })
    (closed-closes (cert_line_of c.in-Ok.next.line) c.in-Ok.next.number c.take_end.result c.take_end.ensures)

pub returns-in-Ok-clause-took : goal.returns-in-Ok-clause-took
returns-in-Ok-clause-took g c =
    closed-took g.S.Source.read_gives g.S.Source.left c.args.reader.now c.args.source.now c.in-Ok.next.number c.take_end.result c.next_line.new.reader c.next_line.new.source (omega (arith, c.in-Ok.ensures.number, c.in-Ok.ensures.given)) c.in-Ok.ensures.took
    (closed-closes (cert_line_of c.in-Ok.next.line) c.in-Ok.next.number c.take_end.result c.take_end.ensures)

pub returns-in-Err-clause-took : goal.returns-in-Err-clause-took
returns-in-Err-clause-took g c = c.in-Err.ensures.took
