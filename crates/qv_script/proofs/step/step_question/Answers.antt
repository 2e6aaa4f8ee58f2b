use Rattle.std.proofs.Common.{ℕ, refl, ap, ◌∙◌, arith}
use Rattle.qv_script_parts.specs.declared.command.Command.TheVariants as code
use Rattle.qv_script_parts.specs.Meant.{meant}
use Rattle.qv_script.specs.Beginnings.{has_terms}
use Rattle.qv_script.proofs.Calling.{does-as, no-get-model, no-get-unsat-assumptions, no-get-unsat-core, steps-form}
use Rattle.qv_script.proofs.Outsets.{question-form}
use Rattle.qv_script.proofs.step.step_question.Goals as goal
use Rattle.qv_store.proofs.Evaluation.{none-of}

pub returns-in-empty-clause-step : goal.returns-in-empty-clause-step
returns-in-empty-clause-step c =
    let a = c.args in
    does-as a.place a.expr.now a.command code.GetModel a.args.now a.stack.now a.stack.now _ c.in-GetModel.is (none-of a.args.now c.in-empty.len_below) c.get_model.ensures

pub returns-in_default-args-clause-step : goal.returns-in_default-args-clause-step
returns-in_default-args-clause-step c =
    let a = c.args in
    steps-form a.place a.expr.now a.command code.GetModel a.args.now a.stack.now a.stack.now c.fault_at.result c.in-GetModel.is c.fault_at.ensures (λ s es n. no-get-model a.place s es (λ k. omega (arith, n, k, c.in_default-args.len_at_least)))

pub returns-in-empty-args-clause-step : goal.returns-in-empty-args-clause-step
returns-in-empty-args-clause-step c =
    let a = c.args in
    does-as a.place a.expr.now a.command code.GetUnsatCore a.args.now a.stack.now a.stack.now _ c.in-GetUnsatCore.is (none-of a.args.now c.in-empty-args.len_below) c.get_unsat_core.ensures

pub returns-in_default-args-2-clause-step : goal.returns-in_default-args-2-clause-step
returns-in_default-args-2-clause-step c =
    let a = c.args in
    steps-form a.place a.expr.now a.command code.GetUnsatCore a.args.now a.stack.now a.stack.now c.fault_at-in_default-args-2.result c.in-GetUnsatCore.is c.fault_at-in_default-args-2.ensures (λ s es n. no-get-unsat-core a.place s es (λ k. omega (arith, n, k, c.in_default-args-2.len_at_least)))

pub returns-in-empty-args-2-clause-step : goal.returns-in-empty-args-2-clause-step
returns-in-empty-args-2-clause-step c =
    let a = c.args in
    does-as a.place a.expr.now a.command code.GetUnsatAssumptions a.args.now a.stack.now a.stack.now _ c.in-GetUnsatAssumptions.is (none-of a.args.now c.in-empty-args-2.len_below) c.get_unsat_assumptions.ensures

pub returns-in_default-args-3-clause-step : goal.returns-in_default-args-3-clause-step
returns-in_default-args-3-clause-step c =
    let a = c.args in
    steps-form a.place a.expr.now a.command code.GetUnsatAssumptions a.args.now a.stack.now a.stack.now c.fault_at-in_default-args-3.result c.in-GetUnsatAssumptions.is c.fault_at-in_default-args-3.ensures (λ s es n. no-get-unsat-assumptions a.place s es (λ k. omega (arith, n, k, c.in_default-args-3.len_at_least)))

pub returns-in_default-clause-step : goal.returns-in_default-clause-step
returns-in_default-clause-step c =
    let a = c.args in
    steps-form a.place a.expr.now a.command a.command a.args.now a.stack.now a.stack.now c.fault_at-in_default.result refl c.fault_at-in_default.ensures
    (λ s es n. question-form a.place s a.command es c.requires.question c.in_default.not-GetModel c.in_default.not-GetUnsatCore c.in_default.not-GetUnsatAssumptions (ap (λ (k : ℕ). has_terms (meant a.command) k) n ∙ c.requires.plain))
