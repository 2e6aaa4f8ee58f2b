use Rattle.std.proofs.Common.{None, Some, refl, arith, ◌∙◌}
use Rattle.std.proofs.lemmas.Result.{err_from_is_err_and}
use Rattle.qv_store.specs.Walks.{named}
use Rattle.qv_cert.specs.CertReader.{to_give}
use Rattle.qv_cert.specs.Section.{Rewriting}
use Rattle.qv_check_lines.proofs.Ended.{ends_later}
use Rattle.qv_check_lines.proofs.Judged.{comes-here}
use Rattle.qv_check_lines.proofs.Rewritten.{grows_none, grows_on, led-further}
use Rattle.qv_check_lines.proofs.TakenBy.{nothing-took, took-on}
use Rattle.qv_cert.proofs.Took.{lines-on}
use Rattle.qv_check_lines.proofs.rewriting.read_passes.Goals as goal

pub returns-in_err-checker-clause-err : goal.returns-in_err-checker-clause-err
returns-in_err-checker-clause-err g c =
    let p = err_from_is_err_and c.from_residual.result c.from_residual.ensures.1 in
    rw (p.1, p.2) (λ task answer. (c.passes.invariant.leads task answer).judged c.read_line.new.reader.given (to_give c.read_line.new.reader.rest (g.S.Source.left c.read_line.new.source)) c.in_err-checker.field-0.0 (c.in_err-checker.ensures.err task answer))

pub returns-in_err-checker-clause-ends : goal.returns-in_err-checker-clause-ends
returns-in_err-checker-clause-ends g c =
    let p = err_from_is_err_and c.from_residual.result c.from_residual.ensures.1 in
    rw (p.1, p.2)
    (ends_later c.in_err-checker.field-0.0 (g.S.Source.faults c.args.source.now) (g.S.Source.faults c.passes.source) (g.S.Source.faults c.read_line.new.source) c.read_line.new.reader c.in_err-checker.ensures.ends
    c.passes.invariant.count c.in_err-checker.ensures.count)

pub returns-in_err-checker-clause-grows : goal.returns-in_err-checker-clause-grows
returns-in_err-checker-clause-grows g c = grows_on c.args.store.now c.passes.store c.read_line.new.store c.passes.invariant.grows c.in_err-checker.ensures.grows

pub returns-in-Some-clause-goes : goal.returns-in-Some-clause-goes
returns-in-Some-clause-goes g c task answer =
    led-further task answer (named c.args.store.now c.args.formulas.now.items) (named c.passes.store c.passes.formulas.items) (named c.read_line.new.store c.read_line.new.formulas.items) c.args.reader.now.given c.passes.reader.given c.read_line.new.reader.given
    (to_give c.args.reader.now.rest (g.S.Source.left c.args.source.now)) (to_give c.passes.reader.rest (g.S.Source.left c.passes.source)) (to_give c.read_line.new.reader.rest (g.S.Source.left c.read_line.new.source)) c.in_ok-checker.field-0 (Some c.in-Some.checker) c.in-Some.is (c.passes.invariant.leads task answer)
    (c.in_ok-checker.ensures.goes task answer)

pub returns-in-Some-clause-grows : goal.returns-in-Some-clause-grows
returns-in-Some-clause-grows g c = grows_on c.args.store.now c.passes.store c.read_line.new.store c.passes.invariant.grows c.in_ok-checker.ensures.grows

pub passes-preserved : goal.passes-preserved
passes-preserved g c =
    let step = c.in_ok-checker.ensures in
    let before = c.passes.invariant in
    record {
      below = step.below;
      free = step.free;
      grows = grows_on c.args.store.now c.passes.store c.read_line.new.store before.grows step.grows;
      begun = step.begun;
      reads = step.reads;
      version = step.version ∙ before.version;
      leads = λ task answer. led-further task answer (named c.args.store.now c.args.formulas.now.items) (named c.passes.store c.passes.formulas.items) (named c.read_line.new.store c.read_line.new.formulas.items) c.args.reader.now.given c.passes.reader.given c.read_line.new.reader.given
          (to_give c.args.reader.now.rest (g.S.Source.left c.args.source.now)) (to_give c.passes.reader.rest (g.S.Source.left c.passes.source)) (to_give c.read_line.new.reader.rest (g.S.Source.left c.read_line.new.source)) c.in_ok-checker.field-0 None c.in_default.is (before.leads task answer) (step.goes task answer);
      took = lines-on g.S.Source.read_gives g.S.Source.left c.args.reader.now c.passes.reader c.args.source.now c.passes.source c.read_line.new.source c.read_line.new.reader.given c.read_line.new.reader.rest c.read_line.new.reader.taken before.took step.took;
      telling = step.telling ∙ before.telling;
      count = omega (arith, step.count, before.count);
    }

pub returns-in_err-checker-clause-took : goal.returns-in_err-checker-clause-took
returns-in_err-checker-clause-took g c =
    let p = err_from_is_err_and c.from_residual.result c.from_residual.ensures.1 in
    rw (p.1, p.2) (took-on g.S.Source.read_gives g.S.Source.left c.args.reader.now c.passes.reader c.read_line.new.reader c.args.source.now c.passes.source c.read_line.new.source c.in_err-checker.field-0.0 c.passes.invariant.took c.in_err-checker.ensures.took)

pub returns-in-Some-clause-took : goal.returns-in-Some-clause-took
returns-in-Some-clause-took g c =
    lines-on g.S.Source.read_gives g.S.Source.left c.args.reader.now c.passes.reader c.args.source.now c.passes.source c.read_line.new.source c.read_line.new.reader.given c.read_line.new.reader.rest c.read_line.new.reader.taken c.passes.invariant.took c.in_ok-checker.ensures.took

pub passes-init : goal.passes-init
passes-init g c = record {
  below = c.requires.below;
  free = c.requires.free;
  grows = grows_none c.args.store.now;
  begun = c.requires.begun;
  reads = c.requires.reads;
  version = refl;
  leads = λ task answer. comes-here task (Rewriting answer (named c.args.store.now c.args.formulas.now.items)) c.args.reader.now.given (to_give c.args.reader.now.rest (g.S.Source.left c.args.source.now));
  took = nothing-took g.S.Source.read_gives g.S.Source.left c.args.reader.now c.args.source.now;
  telling = refl;
  count = omega arith;
}
