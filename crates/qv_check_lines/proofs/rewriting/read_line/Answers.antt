use Rattle.std.proofs.Common.{arith}
use Rattle.qv_store.specs.Walks.{named}
use Rattle.qv_cert.specs.CertReader.{to_give}
use Rattle.qv_cert.specs.LineView.{cert_line_of}
use Rattle.qv_check_lines.proofs.Rewritten.{line-goes, line-fails}
use Rattle.qv_check_lines.proofs.Ended.{all-ends, led-stops}
use Rattle.std.proofs.lemmas.Result.{err_from_is_err_and}
use Rattle.qv_check_lines.proofs.TakenBy.{all-stops-took}
use Rattle.qv_check_lines.proofs.rewriting.read_line.Goals as goal

pub returns-clause-goes : goal.returns-clause-goes
returns-clause-goes g c =
    line-goes (named c.args.store.now c.args.formulas.now.items) (named c.take_line.new.store c.take_line.new.formulas.items) c.in_ok-next.next.line c.args.reader.now.given c.next_line.new.reader.given c.in_ok-next.next.number
    (to_give c.args.reader.now.rest (g.S.Source.left c.args.source.now)) (to_give c.next_line.new.reader.rest (g.S.Source.left c.next_line.new.source)) c.take_line.result
    (omega (arith, c.in_ok-next.ensures.given)) c.in_ok-next.ensures.line c.take_line.ensures.taken

pub returns-clause-err : goal.returns-clause-err
returns-clause-err g c =
    line-fails (named c.args.store.now c.args.formulas.now.items) (named c.take_line.new.store c.take_line.new.formulas.items) c.in_ok-next.next.line c.args.reader.now.given c.next_line.new.reader.given c.in_ok-next.next.number
    (to_give c.args.reader.now.rest (g.S.Source.left c.args.source.now)) (to_give c.next_line.new.reader.rest (g.S.Source.left c.next_line.new.source))
    (to_give c.next_line.new.reader.rest (g.S.Source.left c.next_line.new.source)) c.take_line.result
    (omega (arith, c.in_ok-next.ensures.number)) c.in_ok-next.ensures.line c.take_line.ensures.taken

pub returns-clause-ends : goal.returns-clause-ends
returns-clause-ends g c =
    all-ends c.in_ok-next.next.number c.take_line.result (g.S.Source.faults c.args.source.now) (g.S.Source.faults c.next_line.new.source) c.next_line.new.reader c.in_ok-next.ensures.short
    (led-stops (named c.args.store.now c.args.formulas.now.items) (named c.take_line.new.store c.take_line.new.formulas.items) (cert_line_of c.in_ok-next.next.line) c.in_ok-next.next.number c.take_line.result
    c.take_line.ensures.taken)

pub returns-in_err-next-clause-took : goal.returns-in_err-next-clause-took
returns-in_err-next-clause-took g c =
    let p = err_from_is_err_and c.from_residual.result c.from_residual.ensures.1 in
    rw (p.1, p.2) c.in_err-next.ensures.took

pub returns-clause-took : goal.returns-clause-took
returns-clause-took g c =
    all-stops-took g.S.Source.read_gives g.S.Source.left c.args.reader.now c.args.source.now c.in_ok-next.next.number c.take_line.result c.next_line.new.reader c.next_line.new.source (omega (arith, c.in_ok-next.ensures.number, c.in_ok-next.ensures.given)) c.in_ok-next.ensures.took
    (led-stops (named c.args.store.now c.args.formulas.now.items) (named c.take_line.new.store c.take_line.new.formulas.items) (cert_line_of c.in_ok-next.next.line) c.in_ok-next.next.number c.take_line.result
    c.take_line.ensures.taken)
