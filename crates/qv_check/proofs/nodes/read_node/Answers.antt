use Rattle.std.proofs.Common.{◌==◌, ℕ, false, ap, sym, ◌∙◌, refl, arith}
use Rattle.std.proofs.lemmas.Result.{err_from_is_err_and}
use Rattle.qv_store.specs.Problems.{problem_in}
use Rattle.qv_cert.specs.CertReader.{to_give}
use Rattle.qv_cert.specs.LineView.{cert_line_of}
use Rattle.qv_cert.specs.Section.{Listing}
use Rattle.qv_cert_nodes.specs.Lists.{listed_in}
use Rattle.qv_check.proofs.ListedLines.{node-kind, own-line, comes-behind, goes-listed, fails-listed}
use Rattle.qv_check_lines.proofs.Ended.{stops-ends}
use Rattle.qv_check.proofs.Ended.{given-stops}
use Rattle.qv_check_lines.proofs.TakenBy.{stops-took}
use Rattle.qv_check.proofs.nodes.read_node.Goals as goal

pub returns-in_err-next-clause-err : goal.returns-in_err-next-clause-err
returns-in_err-next-clause-err g c =
    let p = err_from_is_err_and c.from_residual.result c.from_residual.ensures.1 in
    rw (p.1, p.2) (λ task about. c.in_err-next.ensures.err task (Listing c.args.answer (listed_in c.args.store.now c.args.listed.now)) refl
    (node-kind task c.args.answer (listed_in c.args.store.now c.args.listed.now) (c.version.result == 2) (ap (λ (v : ℕ). v == 2) (c.version.ensures ∙ sym about.version))))

pub returns-then-ends_nodes-clause-goes : goal.returns-then-ends_nodes-clause-goes
returns-then-ends_nodes-clause-goes g c task about =
    comes-behind task (Listing c.args.answer (listed_in c.args.store.now c.args.listed.now)) c.args.reader.now.given (to_give c.args.reader.now.rest (g.S.Source.left c.args.source.now))
    (to_give c.next_line.new.reader.rest (g.S.Source.left c.next_line.new.source)) c.in_ok-next.next c.in_ok-next.ensures.number c.in_ok-next.ensures.line

pub take_node-requires-clause-read : goal.take_node-requires-clause-read
take_node-requires-clause-read g c =
    own-line false (to_give c.args.reader.now.rest (g.S.Source.left c.args.source.now)) (to_give c.next_line.new.reader.rest (g.S.Source.left c.next_line.new.source)) c.in_ok-next.next.line c.in_ok-next.ensures.line

pub returns-in_err-take_node-clause-err : goal.returns-in_err-take_node-clause-err
returns-in_err-take_node-clause-err g c =
    let p = err_from_is_err_and c.from_residual-in_err-take_node.result c.from_residual-in_err-take_node.ensures.1 in
    rw (p.1, p.2) (λ task about. fails-listed task c.args.answer (listed_in c.args.store.now c.args.listed.now) (listed_in c.take_node.new.store c.take_node.new.listed) c.args.reader.now.given c.next_line.new.reader.given c.in_ok-next.next.number
    (to_give c.args.reader.now.rest (g.S.Source.left c.args.source.now)) (to_give c.next_line.new.reader.rest (g.S.Source.left c.next_line.new.source))
    (to_give c.next_line.new.reader.rest (g.S.Source.left c.next_line.new.source)) c.in_ok-next.next.line c.in_err-take_node.field-0.0 c.in_ok-next.ensures.number c.in_ok-next.ensures.line
    (c.in_err-take_node.ensures.given task about.problem))

pub returns-in_err-take_node-clause-ends : goal.returns-in_err-take_node-clause-ends
returns-in_err-take_node-clause-ends g c =
    let p = err_from_is_err_and c.from_residual-in_err-take_node.result c.from_residual-in_err-take_node.ensures.1 in
    rw (p.1, p.2) (stops-ends c.in_ok-next.next.number c.in_err-take_node.field-0.0 (g.S.Source.faults c.args.source.now) (g.S.Source.faults c.next_line.new.source) c.next_line.new.reader c.in_ok-next.ensures.short
    (given-stops (problem_in c.args.store.now c.args.problem.now) c.args.answer (listed_in c.args.store.now c.args.listed.now) (listed_in c.take_node.new.store c.take_node.new.listed) (cert_line_of c.in_ok-next.next.line)
    c.in_ok-next.next.number c.in_err-take_node.field-0.0 c.in_err-take_node.ensures.given))

pub returns-clause-goes : goal.returns-clause-goes
returns-clause-goes g c task about =
    goes-listed task c.args.answer (listed_in c.args.store.now c.args.listed.now) (listed_in c.take_node.new.store c.take_node.new.listed) c.args.reader.now.given c.next_line.new.reader.given c.in_ok-next.next.number
    (to_give c.args.reader.now.rest (g.S.Source.left c.args.source.now)) (to_give c.next_line.new.reader.rest (g.S.Source.left c.next_line.new.source)) c.in_ok-next.next.line
    c.in_ok-next.ensures.given c.in_ok-next.ensures.line (c.in_ok-take_node.ensures.given task about.problem)

pub returns-in_err-next-clause-took : goal.returns-in_err-next-clause-took
returns-in_err-next-clause-took g c =
    let p = err_from_is_err_and c.from_residual.result c.from_residual.ensures.1 in
    rw (p.1, p.2) c.in_err-next.ensures.took

pub returns-then-ends_nodes-clause-took : goal.returns-then-ends_nodes-clause-took
returns-then-ends_nodes-clause-took g c = c.in_ok-next.ensures.took

pub returns-in_err-take_node-clause-took : goal.returns-in_err-take_node-clause-took
returns-in_err-take_node-clause-took g c =
    let p = err_from_is_err_and c.from_residual-in_err-take_node.result c.from_residual-in_err-take_node.ensures.1 in
    rw (p.1, p.2) (stops-took g.S.Source.read_gives g.S.Source.left c.args.reader.now c.args.source.now c.in_ok-next.next.number c.in_err-take_node.field-0.0 c.next_line.new.reader c.next_line.new.source (omega (arith, c.in_ok-next.ensures.number, c.in_ok-next.ensures.given)) c.in_ok-next.ensures.took
    (given-stops (problem_in c.args.store.now c.args.problem.now) c.args.answer (listed_in c.args.store.now c.args.listed.now) (listed_in c.take_node.new.store c.take_node.new.listed) (cert_line_of c.in_ok-next.next.line)
    c.in_ok-next.next.number c.in_err-take_node.field-0.0 c.in_err-take_node.ensures.given))

pub returns-clause-took : goal.returns-clause-took
returns-clause-took g c = c.in_ok-next.ensures.took
