use Rattle.std.proofs.Common.{subst, sym, ◌∙◌}
use Rattle.std.proofs.lemmas.Result.{err_from_is_err_and}
use Rattle.qv_store.specs.Problems.{problem_in}
use Rattle.qv_store.specs.Walks.{named}
use Rattle.qv_cert.specs.CertReader.{to_give}
use Rattle.qv_cert.specs.LineView.{cert_line_of}
use Rattle.qv_cert.specs.SoFar.{IsSoFar}
use Rattle.qv_cert.proofs.SoFar.{sections-begin}
use Rattle.qv_cert_nodes.specs.Lists.{listed_in}
use Rattle.qv_check.proofs.Left.{begun-goes, begun-ends, begun-fails}
use Rattle.qv_check_lines.proofs.Ended.{stops-ends}
use Rattle.qv_check.proofs.Ended.{started-stops}
use Rattle.qv_check_lines.proofs.TakenBy.{stops-took}
use Rattle.qv_check.proofs.leaving.read_list.Goals as goal
use Rattle.qv_store.proofs.Replacement.{grows-more}

pub read_nodes-requires-clause-far : goal.read_nodes-requires-clause-far
read_nodes-requires-clause-far g c =
    let p = problem_in c.args.store.now c.args.problem.now in
    subst (IsSoFar p c.args.answer) (sym (c.new-listed.ensures.nothing c.args.store.now)) (sections-begin p c.args.answer)

pub read_nodes-requires-clause-kept : goal.read_nodes-requires-clause-kept
read_nodes-requires-clause-kept g c = c.new-listed.ensures.kept c.args.store.now (problem_in c.args.store.now c.args.problem.now)

pub returns-in_err-next-clause-err : goal.returns-in_err-next-clause-err
returns-in_err-next-clause-err g c =
    let p = err_from_is_err_and c.from_residual.result c.from_residual.ensures.1 in
    rw (p.1, p.2) (λ task about. begun-fails task c.args.answer (listed_in c.args.store.now c.new-listed.result) c.args.reader.now.given c.read_nodes.new.reader.given (to_give c.args.reader.now.rest (g.S.Source.left c.args.source.now))
    (to_give c.read_nodes.new.reader.rest (g.S.Source.left c.read_nodes.new.source)) c.in_err-next.field-0.0 (c.new-listed.ensures.nothing c.args.store.now) (c.in_err-next.ensures.err task about))

pub returns-in_err-formulas-clause-err : goal.returns-in_err-formulas-clause-err
returns-in_err-formulas-clause-err g c =
    let p = err_from_is_err_and c.from_residual-in_err-formulas.result c.from_residual-in_err-formulas.ensures.1 in
    rw (p.1, p.2) (λ task about. begun-ends task (problem_in c.args.store.now c.args.problem.now) (problem_in c.read_nodes.new.store c.args.problem.now) c.args.reader.now.version c.version.result c.args.answer
    (listed_in c.args.store.now c.new-listed.result) (listed_in c.read_nodes.new.store c.read_nodes.new.listed) c.args.reader.now.given c.read_nodes.new.reader.given
    (to_give c.args.reader.now.rest (g.S.Source.left c.args.source.now)) (to_give c.read_nodes.new.reader.rest (g.S.Source.left c.read_nodes.new.source))
    (to_give c.read_nodes.new.reader.rest (g.S.Source.left c.read_nodes.new.source)) c.in_ok-next.next c.in_err-formulas.field-0.0 (c.new-listed.ensures.nothing c.args.store.now) c.in_ok-next.ensures.same (c.version.ensures ∙ c.in_ok-next.ensures.version) about
    c.in_ok-next.ensures.goes c.in_err-formulas.ensures.err)

pub returns-in_err-formulas-clause-ends : goal.returns-in_err-formulas-clause-ends
returns-in_err-formulas-clause-ends g c =
    let p = err_from_is_err_and c.from_residual-in_err-formulas.result c.from_residual-in_err-formulas.ensures.1 in
    rw (p.1, p.2) (stops-ends c.in_ok-next.next.number c.in_err-formulas.field-0.0 (g.S.Source.faults c.args.source.now) (g.S.Source.faults c.read_nodes.new.source) c.read_nodes.new.reader c.in_ok-next.ensures.short
    (started-stops (problem_in c.read_nodes.new.store c.args.problem.now) c.version.result c.args.answer (listed_in c.read_nodes.new.store c.read_nodes.new.listed) (cert_line_of c.in_ok-next.next.line)
    c.in_ok-next.next.number c.in_err-formulas.field-0.0 c.in_err-formulas.ensures.err))

pub returns-clause-goes : goal.returns-clause-goes
returns-clause-goes g c task about =
    begun-goes task (problem_in c.args.store.now c.args.problem.now) (problem_in c.read_nodes.new.store c.args.problem.now) c.args.reader.now.version c.version.result c.args.answer
    (listed_in c.args.store.now c.new-listed.result) (listed_in c.read_nodes.new.store c.read_nodes.new.listed) (named c.start_list.new.store c.in_ok-formulas.formulas.items) c.args.reader.now.given
    (to_give c.args.reader.now.rest (g.S.Source.left c.args.source.now)) (to_give c.read_nodes.new.reader.rest (g.S.Source.left c.read_nodes.new.source)) c.in_ok-next.next
    (c.new-listed.ensures.nothing c.args.store.now) c.in_ok-next.ensures.same (c.version.ensures ∙ c.in_ok-next.ensures.version) about c.in_ok-next.ensures.goes c.in_ok-formulas.ensures.same

pub returns-in_err-next-clause-took : goal.returns-in_err-next-clause-took
returns-in_err-next-clause-took g c =
    let p = err_from_is_err_and c.from_residual.result c.from_residual.ensures.1 in
    rw (p.1, p.2) c.in_err-next.ensures.took

pub returns-in_err-formulas-clause-took : goal.returns-in_err-formulas-clause-took
returns-in_err-formulas-clause-took g c =
    let p = err_from_is_err_and c.from_residual-in_err-formulas.result c.from_residual-in_err-formulas.ensures.1 in
    rw (p.1, p.2) (stops-took g.S.Source.read_gives g.S.Source.left c.args.reader.now c.args.source.now c.in_ok-next.next.number c.in_err-formulas.field-0.0 c.read_nodes.new.reader c.read_nodes.new.source c.in_ok-next.ensures.number c.in_ok-next.ensures.took
    (started-stops (problem_in c.read_nodes.new.store c.args.problem.now) c.version.result c.args.answer (listed_in c.read_nodes.new.store c.read_nodes.new.listed) (cert_line_of c.in_ok-next.next.line)
    c.in_ok-next.next.number c.in_err-formulas.field-0.0 c.in_err-formulas.ensures.err))

pub returns-clause-took : goal.returns-clause-took
returns-clause-took g c = c.in_ok-next.ensures.took

pub returns-in_err-next-clause-ends : goal.returns-in_err-next-clause-ends
returns-in_err-next-clause-ends g c =
    let p = err_from_is_err_and c.from_residual.result c.from_residual.ensures.1 in
    rw (p.1, p.2) c.in_err-next.ensures.ends

pub returns-in_err-formulas-clause-grows : goal.returns-in_err-formulas-clause-grows
returns-in_err-formulas-clause-grows g c = grows-more c.args.store.now c.read_nodes.new.store c.start_list.new.store c.in_ok-next.ensures.grows c.in_err-formulas.ensures.grows

pub returns-clause-grows : goal.returns-clause-grows
returns-clause-grows g c = grows-more c.args.store.now c.read_nodes.new.store c.start_list.new.store c.in_ok-next.ensures.grows c.in_ok-formulas.ensures.grows
