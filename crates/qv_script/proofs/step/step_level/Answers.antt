use Rattle.std.proofs.Common.{refl, Ok, arith}
use Rattle.qv_script_parts.specs.declared.command.Command.TheVariants as code
use Rattle.qv_script.proofs.Calling.{does-as, no-leave, no-level, no-reset, no-reset-assertions, steps-as, steps-form}
use Rattle.qv_script.proofs.step.step_level.Goals as goal
use Rattle.qv_store.proofs.Evaluation.{none-of}

pub returns-in-Push-clause-step : goal.returns-in-Push-clause-step
returns-in-Push-clause-step c =
    let a = c.args in
    steps-as a.place a.expr.now a.command code.Push a.args.now a.args.now a.stack.now c.push_counted.new.stack c.push_counted.result c.in-Push.is refl c.push_counted.ensures.step

pub returns-in-Pop-clause-step : goal.returns-in-Pop-clause-step
returns-in-Pop-clause-step c =
    let a = c.args in
    steps-as a.place a.expr.now a.command code.Pop a.args.now a.args.now a.stack.now c.pop_counted.new.stack c.pop_counted.result c.in-Pop.is refl c.pop_counted.ensures.step

pub returns-in-empty-clause-step : goal.returns-in-empty-clause-step
returns-in-empty-clause-step c =
    let a = c.args in
    does-as a.place a.expr.now a.command code.ResetAssertions a.args.now a.stack.now c.reset_assertions.new.stack (Ok c.reset_assertions.result) c.in-ResetAssertions.is (none-of a.args.now c.in-empty.len_below) c.reset_assertions.ensures

pub returns-in_default-args-clause-step : goal.returns-in_default-args-clause-step
returns-in_default-args-clause-step c =
    let a = c.args in
    steps-form a.place a.expr.now a.command code.ResetAssertions a.args.now a.stack.now a.stack.now c.fault_at.result c.in-ResetAssertions.is c.fault_at.ensures (λ s es n. no-reset-assertions a.place s es (λ k. omega (arith, n, k, c.in_default-args.len_at_least)))

pub returns-in-empty-args-clause-step : goal.returns-in-empty-args-clause-step
returns-in-empty-args-clause-step c =
    let a = c.args in
    does-as a.place a.expr.now a.command code.Reset a.args.now a.stack.now c.reset.new.stack (Ok c.reset.result) c.in-Reset.is (none-of a.args.now c.in-empty-args.len_below) c.reset.ensures

pub returns-in_default-args-2-clause-step : goal.returns-in_default-args-2-clause-step
returns-in_default-args-2-clause-step c =
    let a = c.args in
    steps-form a.place a.expr.now a.command code.Reset a.args.now a.stack.now a.stack.now c.fault_at-in_default-args-2.result c.in-Reset.is c.fault_at-in_default-args-2.ensures (λ s es n. no-reset a.place s es (λ k. omega (arith, n, k, c.in_default-args-2.len_at_least)))

pub returns-in-empty-args-2-clause-step : goal.returns-in-empty-args-2-clause-step
returns-in-empty-args-2-clause-step c =
    let a = c.args in
    does-as a.place a.expr.now a.command code.Exit a.args.now a.stack.now a.stack.now (Ok c.exit.result) c.in-Exit.is (none-of a.args.now c.in-empty-args-2.len_below) c.exit.ensures

pub returns-in_default-args-3-clause-step : goal.returns-in_default-args-3-clause-step
returns-in_default-args-3-clause-step c =
    let a = c.args in
    steps-form a.place a.expr.now a.command code.Exit a.args.now a.stack.now a.stack.now c.fault_at-in_default-args-3.result c.in-Exit.is c.fault_at-in_default-args-3.ensures (λ s es n. no-leave a.place s es (λ k. omega (arith, n, k, c.in_default-args-3.len_at_least)))

pub returns-in_default-clause-step : goal.returns-in_default-clause-step
returns-in_default-clause-step c = absurd (no-level c.args.command c.requires.level c.in_default.not-Push c.in_default.not-Pop c.in_default.not-ResetAssertions c.in_default.not-Reset c.in_default.not-Exit)
