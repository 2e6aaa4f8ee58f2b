use Rattle.std.proofs.Common.{refl, arith, ◌∙◌}
use Rattle.std.proofs.lemmas.Result.{err_from_is_err_and}
use Rattle.qv_cert.proofs.Took.{lines-on}
use Rattle.qv_check_lines.proofs.TakenBy.{nothing-took, took-on}
use Rattle.qv_check_lines.proofs.steps.read_steps.Goals as goal

pub steps-init : goal.steps-init
steps-init g c = record {
  begun = c.requires.begun;
  reads = c.requires.reads;
  version = refl;
  leads = λ task answer now left verdict h. h;
  took = nothing-took g.S.Source.read_gives g.S.Source.left c.args.reader.now c.args.source.now;
  telling = refl;
  count = omega arith;
}

pub steps-preserved : goal.steps-preserved
steps-preserved g c =
    let step = c.in_ok-read_step.ensures in
    let before = c.steps.invariant in
    record {
      begun = step.begun;
      reads = step.reads;
      version = step.version ∙ before.version;
      leads = λ task answer now left verdict h. before.leads task answer now left verdict (step.goes c.if-not-branch.false task answer now left verdict h);
      took = lines-on g.S.Source.read_gives g.S.Source.left c.args.reader.now c.steps.reader c.args.source.now c.steps.source c.read_step.new.source c.read_step.new.reader.given c.read_step.new.reader.rest c.read_step.new.reader.taken before.took step.took;
      telling = step.telling ∙ before.telling;
      count = omega (arith, step.count, before.count);
    }

pub returns-in_err-read_step-clause-took : goal.returns-in_err-read_step-clause-took
returns-in_err-read_step-clause-took g c =
    let p = err_from_is_err_and c.from_residual.result c.from_residual.ensures.1 in
    rw (p.1, p.2) (took-on g.S.Source.read_gives g.S.Source.left c.args.reader.now c.steps.reader c.read_step.new.reader c.args.source.now c.steps.source c.read_step.new.source c.in_err-read_step.field-0.0 c.steps.invariant.took c.in_err-read_step.ensures.took)

pub returns-then-not-branch-clause-took : goal.returns-then-not-branch-clause-took
returns-then-not-branch-clause-took g c =
    lines-on g.S.Source.read_gives g.S.Source.left c.args.reader.now c.steps.reader c.args.source.now c.steps.source c.read_step.new.source c.read_step.new.reader.given c.read_step.new.reader.rest c.read_step.new.reader.taken c.steps.invariant.took c.in_ok-read_step.ensures.took
