use Rattle.std.proofs.Common.{refl, Err}
use Rattle.std.proofs.lemmas.Result.{err_from_is_err_and}
use Rattle.qv_store.specs.Problems.{problem_in}
use Rattle.qv_store.specs.Walks.{named}
use Rattle.qv_cert.specs.CertReader.{to_give}
use Rattle.qv_cert.specs.LineView.{cert_line_of}
use Rattle.qv_cert.specs.Listed.{nothing}
use Rattle.qv_cert.specs.Section.{Listing, Rewriting}
use Rattle.qv_check.proofs.Left.{along-some, along-none, along-ends, passed-goes, passed-fails}
use Rattle.qv_check_lines.proofs.Ended.{stops-ends, led-stops}
use Rattle.qv_check_lines.proofs.TakenBy.{stops-took, all-took-on}
use Rattle.qv_check.proofs.Ended.{all-later}
use Rattle.qv_check.proofs.leaving.read_to_lrat.Goals as goal
use Rattle.qv_store.proofs.Replacement.{grows-more}

pub returns-in_err-checker-clause-err : goal.returns-in_err-checker-clause-err
returns-in_err-checker-clause-err g c =
    let p = err_from_is_err_and c.from_residual-in_err-checker.result c.from_residual-in_err-checker.ensures.1 in
    rw (p.1, p.2) (λ task about. along-ends task (Listing c.args.answer nothing) (Rewriting c.args.answer (named c.read_list.new.store c.in_ok-begun.begun.formulas.items)) c.args.reader.now.given c.read_list.new.reader.given
    (to_give c.args.reader.now.rest (g.S.Source.left c.args.source.now)) (to_give c.read_list.new.reader.rest (g.S.Source.left c.read_list.new.source))
    (to_give c.read_list.new.reader.rest (g.S.Source.left c.read_list.new.source)) c.in_ok-begun.begun.next c.in_err-checker.field-0.0 refl (c.in_err-checker.ensures.taken task c.args.answer)
    (c.in_ok-begun.ensures.goes task about))

pub returns-in-Some-clause-goes : goal.returns-in-Some-clause-goes
returns-in-Some-clause-goes g c task about =
    along-some task c.args.answer (named c.read_list.new.store c.in_ok-begun.begun.formulas.items) (named c.take_line.new.store c.take_line.new.formulas.items) (Listing c.args.answer nothing) c.args.reader.now.given c.read_list.new.reader.given
    (to_give c.args.reader.now.rest (g.S.Source.left c.args.source.now)) (to_give c.read_list.new.reader.rest (g.S.Source.left c.read_list.new.source)) c.in_ok-begun.begun.next c.in_ok-checker.field-0 c.in-Some.checker c.in-Some.is
    c.in_ok-begun.ensures.number (c.in_ok-checker.ensures.taken task c.args.answer) (c.in_ok-begun.ensures.goes task about)

pub returns-in_err-checker-clause-ends : goal.returns-in_err-checker-clause-ends
returns-in_err-checker-clause-ends g c =
    let p = err_from_is_err_and c.from_residual-in_err-checker.result c.from_residual-in_err-checker.ensures.1 in
    rw (p.1, p.2) (stops-ends c.in_ok-begun.begun.next.number c.in_err-checker.field-0.0 (g.S.Source.faults c.args.source.now) (g.S.Source.faults c.read_list.new.source) c.read_list.new.reader c.in_ok-begun.ensures.short
    (led-stops (named c.read_list.new.store c.in_ok-begun.begun.formulas.items) (named c.take_line.new.store c.take_line.new.formulas.items) (cert_line_of c.in_ok-begun.begun.next.line) c.in_ok-begun.begun.next.number
    (Err c.in_err-checker.field-0.0) c.in_err-checker.ensures.taken))

pub returns-clause-goes : goal.returns-clause-goes
returns-clause-goes g c =
    passed-goes (problem_in c.args.store.now c.args.problem.now) c.args.reader.now.version c.args.answer (named c.take_line.new.store c.take_line.new.formulas.items) c.args.reader.now.given c.read_list.new.reader.given c.read_passes.new.reader.given
    (to_give c.args.reader.now.rest (g.S.Source.left c.args.source.now)) (to_give c.read_list.new.reader.rest (g.S.Source.left c.read_list.new.source)) (to_give c.read_passes.new.reader.rest (g.S.Source.left c.read_passes.new.source)) c.read_passes.result
    (λ task about. along-none task c.args.answer (named c.read_list.new.store c.in_ok-begun.begun.formulas.items) (named c.take_line.new.store c.take_line.new.formulas.items) (Listing c.args.answer nothing) c.args.reader.now.given c.read_list.new.reader.given
    (to_give c.args.reader.now.rest (g.S.Source.left c.args.source.now)) (to_give c.read_list.new.reader.rest (g.S.Source.left c.read_list.new.source)) c.in_ok-begun.begun.next c.in_ok-checker.field-0 c.in-None.is
    c.in_ok-begun.ensures.number (c.in_ok-checker.ensures.taken task c.args.answer) (c.in_ok-begun.ensures.goes task about))
    c.read_passes.ensures.goes

pub returns-clause-err : goal.returns-clause-err
returns-clause-err g c =
    passed-fails (problem_in c.args.store.now c.args.problem.now) c.args.reader.now.version c.args.answer (named c.take_line.new.store c.take_line.new.formulas.items) c.args.reader.now.given c.read_list.new.reader.given c.read_passes.new.reader.given
    (to_give c.args.reader.now.rest (g.S.Source.left c.args.source.now)) (to_give c.read_list.new.reader.rest (g.S.Source.left c.read_list.new.source)) (to_give c.read_passes.new.reader.rest (g.S.Source.left c.read_passes.new.source)) c.read_passes.result
    (λ task about. along-none task c.args.answer (named c.read_list.new.store c.in_ok-begun.begun.formulas.items) (named c.take_line.new.store c.take_line.new.formulas.items) (Listing c.args.answer nothing) c.args.reader.now.given c.read_list.new.reader.given
    (to_give c.args.reader.now.rest (g.S.Source.left c.args.source.now)) (to_give c.read_list.new.reader.rest (g.S.Source.left c.read_list.new.source)) c.in_ok-begun.begun.next c.in_ok-checker.field-0 c.in-None.is
    c.in_ok-begun.ensures.number (c.in_ok-checker.ensures.taken task c.args.answer) (c.in_ok-begun.ensures.goes task about))
    c.read_passes.ensures.err

pub returns-in_err-begun-clause-took : goal.returns-in_err-begun-clause-took
returns-in_err-begun-clause-took g c =
    let p = err_from_is_err_and c.from_residual.result c.from_residual.ensures.1 in
    rw (p.1, p.2) c.in_err-begun.ensures.took

pub returns-in_err-checker-clause-took : goal.returns-in_err-checker-clause-took
returns-in_err-checker-clause-took g c =
    let p = err_from_is_err_and c.from_residual-in_err-checker.result c.from_residual-in_err-checker.ensures.1 in
    rw (p.1, p.2) (stops-took g.S.Source.read_gives g.S.Source.left c.args.reader.now c.args.source.now c.in_ok-begun.begun.next.number c.in_err-checker.field-0.0 c.read_list.new.reader c.read_list.new.source c.in_ok-begun.ensures.number c.in_ok-begun.ensures.took
    (led-stops (named c.read_list.new.store c.in_ok-begun.begun.formulas.items) (named c.take_line.new.store c.take_line.new.formulas.items) (cert_line_of c.in_ok-begun.begun.next.line) c.in_ok-begun.begun.next.number
    (Err c.in_err-checker.field-0.0) c.in_err-checker.ensures.taken))

pub returns-in-Some-clause-took : goal.returns-in-Some-clause-took
returns-in-Some-clause-took g c = c.in_ok-begun.ensures.took

pub returns-clause-took : goal.returns-clause-took
returns-clause-took g c = all-took-on g.S.Source.read_gives g.S.Source.left c.args.reader.now c.read_list.new.reader c.read_passes.new.reader c.args.source.now c.read_list.new.source c.read_passes.new.source c.read_passes.result c.in_ok-begun.ensures.took c.read_passes.ensures.took

pub returns-in_err-begun-clause-err : goal.returns-in_err-begun-clause-err
returns-in_err-begun-clause-err g c =
    let p = err_from_is_err_and c.from_residual.result c.from_residual.ensures.1 in
    rw (p.1, p.2) c.in_err-begun.ensures.err

pub returns-in_err-begun-clause-ends : goal.returns-in_err-begun-clause-ends
returns-in_err-begun-clause-ends g c =
    let p = err_from_is_err_and c.from_residual.result c.from_residual.ensures.1 in
    rw (p.1, p.2) c.in_err-begun.ensures.ends

pub returns-clause-ends : goal.returns-clause-ends
returns-clause-ends g c =
    all-later c.read_passes.result (g.S.Source.faults c.args.source.now) (g.S.Source.faults c.read_list.new.source) (g.S.Source.faults c.read_passes.new.source) c.read_passes.new.reader c.read_passes.ensures.ends
    c.in_ok-begun.ensures.count c.read_passes.ensures.count

pub returns-clause-grows : goal.returns-clause-grows
returns-clause-grows g c =
    grows-more c.args.store.now c.take_line.new.store c.read_passes.new.store
    (grows-more c.args.store.now c.read_list.new.store c.take_line.new.store c.in_ok-begun.ensures.grows c.in_ok-checker.ensures.grows) c.read_passes.ensures.grows

pub returns-in-Some-clause-grows : goal.returns-in-Some-clause-grows
returns-in-Some-clause-grows g c = grows-more c.args.store.now c.read_list.new.store c.take_line.new.store c.in_ok-begun.ensures.grows c.in_ok-checker.ensures.grows

pub returns-in_err-checker-clause-grows : goal.returns-in_err-checker-clause-grows
returns-in_err-checker-clause-grows g c = grows-more c.args.store.now c.read_list.new.store c.take_line.new.store c.in_ok-begun.ensures.grows c.in_err-checker.ensures.grows
