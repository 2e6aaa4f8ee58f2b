use Rattle.qv_cert.specs.CertReader.{to_give}
use Rattle.qv_cert.specs.LineView.{cert_line_of}
use Rattle.qv_check.proofs.Opened.{opened-goes, opened-fails}
use Rattle.qv_check_lines.proofs.Ended.{all-ends}
use Rattle.qv_check.proofs.Ended.{opened-stops}
use Rattle.std.proofs.Common.{arith}
use Rattle.std.proofs.lemmas.Result.{err_from_is_err_and}
use Rattle.qv_check_lines.proofs.TakenBy.{all-stops-took}
use Rattle.qv_check.proofs.opening.open.Goals as goal

pub returns-clause-goes : goal.returns-clause-goes
returns-clause-goes g c =
    opened-goes c.args.number c.args.reader.now.given c.next_line.new.reader.given c.in_ok-next.next.number (to_give c.args.reader.now.rest (g.S.Source.left c.args.source.now))
    (to_give c.next_line.new.reader.rest (g.S.Source.left c.next_line.new.source)) c.in_ok-next.next.line c.take_check.result c.in_ok-next.ensures.given c.in_ok-next.ensures.line c.take_check.ensures

pub returns-clause-err : goal.returns-clause-err
returns-clause-err g c =
    opened-fails c.args.number c.args.reader.now.given c.next_line.new.reader.given c.in_ok-next.next.number (to_give c.args.reader.now.rest (g.S.Source.left c.args.source.now))
    (to_give c.next_line.new.reader.rest (g.S.Source.left c.next_line.new.source)) (to_give c.next_line.new.reader.rest (g.S.Source.left c.next_line.new.source)) c.in_ok-next.next.line c.take_check.result
    c.in_ok-next.ensures.number c.in_ok-next.ensures.line c.take_check.ensures

pub returns-clause-ends : goal.returns-clause-ends
returns-clause-ends g c =
    all-ends c.in_ok-next.next.number c.take_check.result (g.S.Source.faults c.args.source.now) (g.S.Source.faults c.next_line.new.source) c.next_line.new.reader c.in_ok-next.ensures.short
    (opened-stops c.args.number (cert_line_of c.in_ok-next.next.line) c.in_ok-next.next.number c.take_check.result c.take_check.ensures)

pub returns-in_err-next-clause-took : goal.returns-in_err-next-clause-took
returns-in_err-next-clause-took g c =
    let p = err_from_is_err_and c.from_residual.result c.from_residual.ensures.1 in
    rw (p.1, p.2) c.in_err-next.ensures.took

pub returns-clause-took : goal.returns-clause-took
returns-clause-took g c =
    all-stops-took g.S.Source.read_gives g.S.Source.left c.args.reader.now c.args.source.now c.in_ok-next.next.number c.take_check.result c.next_line.new.reader c.next_line.new.source (omega (arith, c.in_ok-next.ensures.number, c.in_ok-next.ensures.given)) c.in_ok-next.ensures.took
    (opened-stops c.args.number (cert_line_of c.in_ok-next.next.line) c.in_ok-next.next.number c.take_check.result c.take_check.ensures)
