use borrow.Author.Tests.{ltb-true, ltb-false}
use Rattle.std.proofs.Common.{◌≤◌, ◌<◌, length, arith}
use Rattle.qv_script_parts.specs.declared.command.Command.TheVariants as code
use Rattle.qv_script_plain.proofs.Plain.{no-echo, no-get-info, no-get-option, no-set-info, no-set-logic, no-set-option}
use Rattle.qv_script.proofs.Calling.{args-begin, info-as, no-setting, one-long, steps-as, steps-form, two-long}
use Rattle.qv_script.proofs.step.step_setting.Goals as goal
use Rattle.qv_script.proofs.step.step_setting.Goals.{in_default-args-via-then-args-lt1}
use Rattle.qv_script.proofs.step.step_setting.Goals.{in_default-args-via-else-args-lt1+else-args-lt2}
use Rattle.qv_script.proofs.step.step_setting.Goals.{in_default-args-2-via-then-args-lt2-2}
use Rattle.qv_script.proofs.step.step_setting.Goals.{in_default-args-2-via-else-args-lt2-2+else-args-lt3}
use Rattle.qv_script.proofs.step.step_setting.Goals.{in_default-args-3-via-then-args-lt1-2}
use Rattle.qv_script.proofs.step.step_setting.Goals.{in_default-args-3-via-else-args-lt1-2+else-args-lt2-3+else-args-lt3-2}
use Rattle.qv_script.proofs.step.step_setting.Goals.{in_default-args-4-via-then-args-lt1-3}
use Rattle.qv_script.proofs.step.step_setting.Goals.{in_default-args-4-via-else-args-lt1-3+else-args-lt2-4}
use Rattle.qv_script.proofs.step.step_setting.Goals.{in_default-args-5-via-then-args-lt1-4}
use Rattle.qv_script.proofs.step.step_setting.Goals.{in_default-args-5-via-else-args-lt1-4+else-args-lt2-5}
use Rattle.qv_script.proofs.step.step_setting.Goals.{in_default-args-6-via-then-args-lt1-5}
use Rattle.qv_script.proofs.step.step_setting.Goals.{in_default-args-6-via-else-args-lt1-5+else-args-lt2-6}

pub returns-in-len1-clause-step : goal.returns-in-len1-clause-step
returns-in-len1-clause-step c =
    let a = c.args in
    steps-as a.place a.expr.now a.command code.SetLogic a.args.now _ a.stack.now c.set_logic.new.stack c.set_logic.result c.in-SetLogic.is (one-long a.args.now c.in-len1.len_at_least c.in-len1.len_below) c.set_logic.ensures.step

pub returns-in_default-args-clause-step : goal.returns-in_default-args-clause-step
returns-in_default-args-clause-step c =
    let a = c.args in
    elim c.in_default-args.branch [
      | in_default-args-via-then-args-lt1 w ↦
          let few : length a.args.now < 1 = omega (arith, ltb-true) in
          steps-form a.place a.expr.now a.command code.SetLogic a.args.now a.stack.now a.stack.now c.fault_at.result c.in-SetLogic.is c.fault_at.ensures (λ s es n. no-set-logic a.place s es (λ k. omega (arith, n, k, few)))
      | in_default-args-via-else-args-lt1+else-args-lt2 w ↦
          let many : 2 ≤ length a.args.now = omega (arith, ltb-false) in
          steps-form a.place a.expr.now a.command code.SetLogic a.args.now a.stack.now a.stack.now c.fault_at.result c.in-SetLogic.is c.fault_at.ensures (λ s es n. no-set-logic a.place s es (λ k. omega (arith, n, k, many)))
    ]

pub returns-in-len2-clause-step : goal.returns-in-len2-clause-step
returns-in-len2-clause-step c =
    let a = c.args in
    steps-as a.place a.expr.now a.command code.SetOption a.args.now _ a.stack.now c.set_option.new.stack c.set_option.result c.in-SetOption.is (two-long a.args.now c.in-len2.len_at_least c.in-len2.len_below) c.set_option.ensures.step

pub returns-in_default-args-2-clause-step : goal.returns-in_default-args-2-clause-step
returns-in_default-args-2-clause-step c =
    let a = c.args in
    elim c.in_default-args-2.branch [
      | in_default-args-2-via-then-args-lt2-2 w ↦
          let few : length a.args.now < 2 = omega (arith, ltb-true) in
          steps-form a.place a.expr.now a.command code.SetOption a.args.now a.stack.now a.stack.now c.fault_at-in_default-args-2.result c.in-SetOption.is c.fault_at-in_default-args-2.ensures (λ s es n. no-set-option a.place s es (λ k. omega (arith, n, k, few)))
      | in_default-args-2-via-else-args-lt2-2+else-args-lt3 w ↦
          let many : 3 ≤ length a.args.now = omega (arith, ltb-false) in
          steps-form a.place a.expr.now a.command code.SetOption a.args.now a.stack.now a.stack.now c.fault_at-in_default-args-2.result c.in-SetOption.is c.fault_at-in_default-args-2.ensures (λ s es n. no-set-option a.place s es (λ k. omega (arith, n, k, many)))
    ]

pub returns-in-len1-args-clause-step : goal.returns-in-len1-args-clause-step
returns-in-len1-args-clause-step c =
    let a = c.args in
    steps-as a.place a.expr.now a.command code.SetInfo a.args.now _ a.stack.now c.set_info.new.stack c.set_info.result c.in-SetInfo.is (one-long a.args.now c.in-len1-args.len_at_least c.in-len1-args.len_below) c.set_info.ensures.step

pub returns-in-len2-args-clause-step : goal.returns-in-len2-args-clause-step
returns-in-len2-args-clause-step c =
    let a = c.args in
    info-as a.place a.expr.now a.command a.args.now a.stack.now c.set_info-in-len2-args.new.stack c.set_info-in-len2-args.result c.in-SetInfo.is (two-long a.args.now c.in-len2-args.len_at_least c.in-len2-args.len_below) c.set_info-in-len2-args.ensures.step

pub returns-in_default-args-3-clause-step : goal.returns-in_default-args-3-clause-step
returns-in_default-args-3-clause-step c =
    let a = c.args in
    elim c.in_default-args-3.branch [
      | in_default-args-3-via-then-args-lt1-2 w ↦
          let few : length a.args.now < 1 = omega (arith, ltb-true) in
          steps-form a.place a.expr.now a.command code.SetInfo a.args.now a.stack.now a.stack.now c.fault_at-in_default-args-3.result c.in-SetInfo.is c.fault_at-in_default-args-3.ensures (λ s es n. no-set-info a.place s es (λ k. omega (arith, n, k, few)) (λ k. omega (arith, n, k, few)))
      | in_default-args-3-via-else-args-lt1-2+else-args-lt2-3+else-args-lt3-2 w ↦
          let many : 3 ≤ length a.args.now = omega (arith, ltb-false) in
          steps-form a.place a.expr.now a.command code.SetInfo a.args.now a.stack.now a.stack.now c.fault_at-in_default-args-3.result c.in-SetInfo.is c.fault_at-in_default-args-3.ensures (λ s es n. no-set-info a.place s es (λ k. omega (arith, n, k, many)) (λ k. omega (arith, n, k, many)))
    ]

pub returns-in-len1-args-2-clause-step : goal.returns-in-len1-args-2-clause-step
returns-in-len1-args-2-clause-step c =
    let a = c.args in
    steps-as a.place a.expr.now a.command code.GetInfo a.args.now _ a.stack.now c.get_info.new.stack c.get_info.result c.in-GetInfo.is (one-long a.args.now c.in-len1-args-2.len_at_least c.in-len1-args-2.len_below) c.get_info.ensures.step

pub returns-in_default-args-4-clause-step : goal.returns-in_default-args-4-clause-step
returns-in_default-args-4-clause-step c =
    let a = c.args in
    elim c.in_default-args-4.branch [
      | in_default-args-4-via-then-args-lt1-3 w ↦
          let few : length a.args.now < 1 = omega (arith, ltb-true) in
          steps-form a.place a.expr.now a.command code.GetInfo a.args.now a.stack.now a.stack.now c.fault_at-in_default-args-4.result c.in-GetInfo.is c.fault_at-in_default-args-4.ensures (λ s es n. no-get-info a.place s es (λ k. omega (arith, n, k, few)))
      | in_default-args-4-via-else-args-lt1-3+else-args-lt2-4 w ↦
          let many : 2 ≤ length a.args.now = omega (arith, ltb-false) in
          steps-form a.place a.expr.now a.command code.GetInfo a.args.now a.stack.now a.stack.now c.fault_at-in_default-args-4.result c.in-GetInfo.is c.fault_at-in_default-args-4.ensures (λ s es n. no-get-info a.place s es (λ k. omega (arith, n, k, many)))
    ]

pub returns-in-len1-args-3-clause-step : goal.returns-in-len1-args-3-clause-step
returns-in-len1-args-3-clause-step c =
    let a = c.args in
    steps-as a.place a.expr.now a.command code.Echo a.args.now _ a.stack.now c.echo.new.stack c.echo.result c.in-Echo.is (one-long a.args.now c.in-len1-args-3.len_at_least c.in-len1-args-3.len_below) c.echo.ensures.step

pub returns-in_default-args-5-clause-step : goal.returns-in_default-args-5-clause-step
returns-in_default-args-5-clause-step c =
    let a = c.args in
    elim c.in_default-args-5.branch [
      | in_default-args-5-via-then-args-lt1-4 w ↦
          let few : length a.args.now < 1 = omega (arith, ltb-true) in
          steps-form a.place a.expr.now a.command code.Echo a.args.now a.stack.now a.stack.now c.fault_at-in_default-args-5.result c.in-Echo.is c.fault_at-in_default-args-5.ensures (λ s es n. no-echo a.place s es (λ k. omega (arith, n, k, few)))
      | in_default-args-5-via-else-args-lt1-4+else-args-lt2-5 w ↦
          let many : 2 ≤ length a.args.now = omega (arith, ltb-false) in
          steps-form a.place a.expr.now a.command code.Echo a.args.now a.stack.now a.stack.now c.fault_at-in_default-args-5.result c.in-Echo.is c.fault_at-in_default-args-5.ensures (λ s es n. no-echo a.place s es (λ k. omega (arith, n, k, many)))
    ]

pub returns-in_default-clause-step : goal.returns-in_default-clause-step
returns-in_default-clause-step c = absurd (no-setting c.args.command c.requires.setting c.in_default.not-SetLogic c.in_default.not-SetOption c.in_default.not-SetInfo c.in_default.not-GetInfo c.in_default.not-Echo c.in_default.not-GetOption)

pub returns-in-len1-args-4-clause-step : goal.returns-in-len1-args-4-clause-step
returns-in-len1-args-4-clause-step c =
    let a = c.args in
    steps-as a.place a.expr.now a.command code.GetOption a.args.now _ a.stack.now c.get_option.new.stack c.get_option.result c.in-GetOption.is (one-long a.args.now c.in-len1-args-4.len_at_least c.in-len1-args-4.len_below) c.get_option.ensures.step

pub returns-in_default-args-6-clause-step : goal.returns-in_default-args-6-clause-step
returns-in_default-args-6-clause-step c =
    let a = c.args in
    elim c.in_default-args-6.branch [
      | in_default-args-6-via-then-args-lt1-5 w ↦
          let few : length a.args.now < 1 = omega (arith, ltb-true) in
          steps-form a.place a.expr.now a.command code.GetOption a.args.now a.stack.now a.stack.now c.fault_at-in_default-args-6.result c.in-GetOption.is c.fault_at-in_default-args-6.ensures (λ s es n. no-get-option a.place s es (λ k. omega (arith, n, k, few)))
      | in_default-args-6-via-else-args-lt1-5+else-args-lt2-6 w ↦
          let many : 2 ≤ length a.args.now = omega (arith, ltb-false) in
          steps-form a.place a.expr.now a.command code.GetOption a.args.now a.stack.now a.stack.now c.fault_at-in_default-args-6.result c.in-GetOption.is c.fault_at-in_default-args-6.ensures (λ s es n. no-get-option a.place s es (λ k. omega (arith, n, k, many)))
    ]

pub set_option-requires-clause-v : goal.set_option-requires-clause-v
set_option-requires-clause-v c =
    let a = c.args in
    let p = c.requires.parts in
    args-begin a.expr.now a.args.now p.0 p.1 1 (omega (arith, c.in-len2.len_at_least))
