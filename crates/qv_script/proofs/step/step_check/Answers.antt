use Rattle.std.proofs.Common.{ℕ, refl, ap, ◌∙◌, Ok, arith}
use Rattle.qv_script_parts.specs.declared.command.Command.TheVariants as code
use Rattle.qv_script_parts.specs.Meant.{meant}
use Rattle.qv_script.specs.Beginnings.{has_terms}
use Rattle.qv_script.proofs.Calling.{does-as, no-check-sat, steps-form}
use Rattle.qv_script.proofs.Outsets.{check-form}
use Rattle.qv_script.proofs.step.step_check.Goals as goal
use Rattle.qv_store.proofs.Evaluation.{none-of}

pub returns-in-empty-clause-step : goal.returns-in-empty-clause-step
returns-in-empty-clause-step c =
    let a = c.args in
    does-as a.place a.expr.now a.command code.CheckSat a.args.now a.stack.now c.check_sat.new.stack (Ok c.check_sat.result) c.in-CheckSat.is (none-of a.args.now c.in-empty.len_below) c.check_sat.ensures

pub returns-in_default-args-clause-step : goal.returns-in_default-args-clause-step
returns-in_default-args-clause-step c =
    let a = c.args in
    steps-form a.place a.expr.now a.command code.CheckSat a.args.now a.stack.now a.stack.now c.fault_at.result c.in-CheckSat.is c.fault_at.ensures (λ s es n. no-check-sat a.place s es (λ k. omega (arith, n, k, c.in_default-args.len_at_least)))

pub returns-in_default-clause-step : goal.returns-in_default-clause-step
returns-in_default-clause-step c =
    let a = c.args in
    steps-form a.place a.expr.now a.command a.command a.args.now a.stack.now a.stack.now c.fault_at-in_default.result refl c.fault_at-in_default.ensures
    (λ s es n. check-form a.place s a.command es c.requires.check c.in_default.not-CheckSat (ap (λ (k : ℕ). has_terms (meant a.command) k) n ∙ c.requires.plain))
