use Rattle.std.proofs.Common.{refl, arith, ◌∙◌}
use Rattle.qv_cert.specs.CertReader.{to_give}
use Rattle.qv_cert.specs.Section.{Listing}
use Rattle.qv_store.specs.Problems.{problem_in}
use Rattle.qv_cert_nodes.specs.Lists.{listed_in}
use Rattle.qv_check_lines.specs.Judging.{IsFor}
use Rattle.qv_check.proofs.ListedLines.{for-later, leads-along, found-along, none-found}
use Rattle.qv_check_lines.proofs.Judged.{comes-further, comes-here}
use Rattle.qv_check_lines.proofs.Rewritten.{grows_none}
use Rattle.qv_check_lines.proofs.TakenBy.{nothing-took, took-on}
use Rattle.qv_cert.proofs.Took.{lines-on}
use Rattle.std.proofs.lemmas.Result.{err_from_is_err_and}
use Rattle.qv_check_lines.proofs.Ended.{ends_later}
use Rattle.qv_check.proofs.nodes.read_nodes.Goals as goal
use Rattle.qv_store.proofs.Replacement.{grows-more}

pub returns-in-Some-clause-goes : goal.returns-in-Some-clause-goes
returns-in-Some-clause-goes g c task about =
    let first = Listing c.args.answer (listed_in c.args.store.now c.args.listed.now) in
    let here = Listing c.args.answer (listed_in c.nodes.store c.nodes.listed) in
    let last = Listing c.args.answer (listed_in c.read_node.new.store c.read_node.new.listed) in
    let old = to_give c.args.reader.now.rest (g.S.Source.left c.args.source.now) in
    let between = to_give c.nodes.reader.rest (g.S.Source.left c.nodes.source) in
    let new = to_give c.read_node.new.reader.rest (g.S.Source.left c.read_node.new.source) in
    let later : IsFor (problem_in c.nodes.store c.args.problem.now) c.nodes.reader.version task =
    for-later _ _ c.args.reader.now.version c.nodes.reader.version task c.nodes.invariant.same c.nodes.invariant.version about in
    leads-along task first here last c.args.reader.now.given c.nodes.reader.given old between new c.in-Some.next (c.nodes.invariant.leads task about)
    (found-along task here last c.nodes.reader.given c.read_node.new.reader.given between new c.in_ok-next.field-0 c.in-Some.next c.in-Some.is (c.in_ok-next.ensures.goes task later))

pub nodes-preserved : goal.nodes-preserved
nodes-preserved g c =
    let first = Listing c.args.answer (listed_in c.args.store.now c.args.listed.now) in
    let here = Listing c.args.answer (listed_in c.nodes.store c.nodes.listed) in
    let last = Listing c.args.answer (listed_in c.read_node.new.store c.read_node.new.listed) in
    let old = to_give c.args.reader.now.rest (g.S.Source.left c.args.source.now) in
    let between = to_give c.nodes.reader.rest (g.S.Source.left c.nodes.source) in
    let new = to_give c.read_node.new.reader.rest (g.S.Source.left c.read_node.new.source) in
    let step = c.in_ok-next.ensures in
    let before = c.nodes.invariant in
    record {
      kept = step.kept;
      posed = step.posed;
      far = step.far;
      same = step.same ∙ before.same;
      grows = grows-more c.args.store.now c.nodes.store c.read_node.new.store before.grows step.grows;
      begun = step.begun;
      reads = step.reads;
      version = step.version ∙ before.version;
      leads = λ task about. comes-further task first here last c.args.reader.now.given c.nodes.reader.given c.read_node.new.reader.given old between new (before.leads task about)
          (none-found task here last c.nodes.reader.given c.read_node.new.reader.given between new c.in_ok-next.field-0 c.in_default.not-Some
          (step.goes task (for-later (problem_in c.args.store.now c.args.problem.now) (problem_in c.nodes.store c.args.problem.now) c.args.reader.now.version c.nodes.reader.version task before.same before.version about)));
      took = lines-on g.S.Source.read_gives g.S.Source.left c.args.reader.now c.nodes.reader c.args.source.now c.nodes.source c.read_node.new.source c.read_node.new.reader.given c.read_node.new.reader.rest c.read_node.new.reader.taken before.took step.took;
      telling = step.telling ∙ before.telling;
      count = omega (arith, step.count, before.count);
    }

pub returns-in_err-next-clause-took : goal.returns-in_err-next-clause-took
returns-in_err-next-clause-took g c =
    let p = err_from_is_err_and c.from_residual.result c.from_residual.ensures.1 in
    rw (p.1, p.2) (took-on g.S.Source.read_gives g.S.Source.left c.args.reader.now c.nodes.reader c.read_node.new.reader c.args.source.now c.nodes.source c.read_node.new.source c.in_err-next.field-0.0 c.nodes.invariant.took c.in_err-next.ensures.took)

pub returns-in-Some-clause-took : goal.returns-in-Some-clause-took
returns-in-Some-clause-took g c =
    lines-on g.S.Source.read_gives g.S.Source.left c.args.reader.now c.nodes.reader c.args.source.now c.nodes.source c.read_node.new.source c.read_node.new.reader.given c.read_node.new.reader.rest c.read_node.new.reader.taken c.nodes.invariant.took c.in_ok-next.ensures.took

pub returns-in_err-next-clause-err : goal.returns-in_err-next-clause-err
returns-in_err-next-clause-err g c =
    let p = err_from_is_err_and c.from_residual.result c.from_residual.ensures.1 in
    rw (p.1, p.2) (λ task about. (c.nodes.invariant.leads task about).judged c.read_node.new.reader.given (to_give c.read_node.new.reader.rest (g.S.Source.left c.read_node.new.source)) c.in_err-next.field-0.0
    (c.in_err-next.ensures.err task
    (for-later (problem_in c.args.store.now c.args.problem.now) (problem_in c.nodes.store c.args.problem.now) c.args.reader.now.version c.nodes.reader.version task c.nodes.invariant.same c.nodes.invariant.version about)))

pub nodes-init : goal.nodes-init
nodes-init g c = record {
  kept = c.requires.kept;
  posed = c.requires.posed;
  far = c.requires.far;
  same = refl;
  grows = grows_none c.args.store.now;
  begun = c.requires.begun;
  reads = c.requires.reads;
  version = refl;
  leads = λ task about. comes-here task (Listing c.args.answer (listed_in c.args.store.now c.args.listed.now)) c.args.reader.now.given (to_give c.args.reader.now.rest (g.S.Source.left c.args.source.now));
  took = nothing-took g.S.Source.read_gives g.S.Source.left c.args.reader.now c.args.source.now;
  telling = refl;
  count = omega arith;
}

pub returns-in_err-next-clause-ends : goal.returns-in_err-next-clause-ends
returns-in_err-next-clause-ends g c =
    let p = err_from_is_err_and c.from_residual.result c.from_residual.ensures.1 in
    rw (p.1, p.2)
    (ends_later c.in_err-next.field-0.0 (g.S.Source.faults c.args.source.now) (g.S.Source.faults c.nodes.source) (g.S.Source.faults c.read_node.new.source) c.read_node.new.reader c.in_err-next.ensures.ends
    c.nodes.invariant.count c.in_err-next.ensures.count)

pub returns-in_err-next-clause-grows : goal.returns-in_err-next-clause-grows
returns-in_err-next-clause-grows g c = grows-more c.args.store.now c.nodes.store c.read_node.new.store c.nodes.invariant.grows c.in_err-next.ensures.grows

pub returns-in-Some-clause-grows : goal.returns-in-Some-clause-grows
returns-in-Some-clause-grows g c = grows-more c.args.store.now c.nodes.store c.read_node.new.store c.nodes.invariant.grows c.in_ok-next.ensures.grows
