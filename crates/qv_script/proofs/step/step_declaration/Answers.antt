use borrow.Author.Tests.{ltb-true, ltb-false}
use Rattle.std.proofs.Common.{◌≤◌, ◌<◌, length, refl, arith}
use Rattle.qv_script_parts.specs.declared.command.Command.TheVariants as code
use Rattle.qv_script_plain.proofs.Plain.{no-declare-const, no-declare-fun}
use Rattle.qv_script.proofs.Calling.{args-begin, no-declaration, steps-as, steps-form, three-long, two-long}
use Rattle.qv_script.proofs.step.step_declaration.Goals as goal
use Rattle.qv_script.proofs.step.step_declaration.Goals.{in_default-args-via-then-args-lt2}
use Rattle.qv_script.proofs.step.step_declaration.Goals.{in_default-args-via-else-args-lt2+else-args-lt3}
use Rattle.qv_script.proofs.step.step_declaration.Goals.{in_default-args-2-via-then-args-lt3-2}
use Rattle.qv_script.proofs.step.step_declaration.Goals.{in_default-args-2-via-else-args-lt3-2+else-args-lt4}

pub returns-in-len2-clause-step : goal.returns-in-len2-clause-step
returns-in-len2-clause-step c =
    let a = c.args in
    steps-as a.place a.expr.now a.command code.DeclareConst a.args.now _ a.stack.now c.declare_const.new.stack c.declare_const.result c.in-DeclareConst.is (two-long a.args.now c.in-len2.len_at_least c.in-len2.len_below) c.declare_const.ensures.step

pub returns-in_default-args-clause-step : goal.returns-in_default-args-clause-step
returns-in_default-args-clause-step c =
    let a = c.args in
    elim c.in_default-args.branch [
      | in_default-args-via-then-args-lt2 w ↦
          let few : length a.args.now < 2 = omega (arith, ltb-true) in
          steps-form a.place a.expr.now a.command code.DeclareConst a.args.now a.stack.now a.stack.now c.fault_at.result c.in-DeclareConst.is c.fault_at.ensures (λ s es n. no-declare-const a.place s es (λ k. omega (arith, n, k, few)))
      | in_default-args-via-else-args-lt2+else-args-lt3 w ↦
          let many : 3 ≤ length a.args.now = omega (arith, ltb-false) in
          steps-form a.place a.expr.now a.command code.DeclareConst a.args.now a.stack.now a.stack.now c.fault_at.result c.in-DeclareConst.is c.fault_at.ensures (λ s es n. no-declare-const a.place s es (λ k. omega (arith, n, k, many)))
    ]

pub returns-in-len3-clause-step : goal.returns-in-len3-clause-step
returns-in-len3-clause-step c =
    let a = c.args in
    steps-as a.place a.expr.now a.command code.DeclareFun a.args.now _ a.stack.now c.declare_fun.new.stack c.declare_fun.result c.in-DeclareFun.is (three-long a.args.now c.in-len3.len_at_least c.in-len3.len_below) c.declare_fun.ensures.step

pub returns-in_default-args-2-clause-step : goal.returns-in_default-args-2-clause-step
returns-in_default-args-2-clause-step c =
    let a = c.args in
    elim c.in_default-args-2.branch [
      | in_default-args-2-via-then-args-lt3-2 w ↦
          let few : length a.args.now < 3 = omega (arith, ltb-true) in
          steps-form a.place a.expr.now a.command code.DeclareFun a.args.now a.stack.now a.stack.now c.fault_at-in_default-args-2.result c.in-DeclareFun.is c.fault_at-in_default-args-2.ensures (λ s es n. no-declare-fun a.place s es (λ k. omega (arith, n, k, few)))
      | in_default-args-2-via-else-args-lt3-2+else-args-lt4 w ↦
          let many : 4 ≤ length a.args.now = omega (arith, ltb-false) in
          steps-form a.place a.expr.now a.command code.DeclareFun a.args.now a.stack.now a.stack.now c.fault_at-in_default-args-2.result c.in-DeclareFun.is c.fault_at-in_default-args-2.ensures (λ s es n. no-declare-fun a.place s es (λ k. omega (arith, n, k, many)))
    ]

pub returns-in-DefineSort-clause-step : goal.returns-in-DefineSort-clause-step
returns-in-DefineSort-clause-step c =
    let a = c.args in
    steps-as a.place a.expr.now a.command code.DefineSort a.args.now a.args.now a.stack.now c.define_shaped.new.stack c.define_shaped.result c.in-DefineSort.is refl c.define_shaped.ensures.step

pub returns-in_default-clause-step : goal.returns-in_default-clause-step
returns-in_default-clause-step c = absurd (no-declaration c.args.command c.requires.declaration c.in_default.not-DeclareConst c.in_default.not-DeclareFun c.in_default.not-DefineSort)

pub declare_const-requires-clause-sort : goal.declare_const-requires-clause-sort
declare_const-requires-clause-sort c =
    let a = c.args in
    let p = c.requires.parts in
    args-begin a.expr.now a.args.now p.0 p.1 1 (omega (arith, c.in-len2.len_at_least))

pub declare_fun-requires-clause-sort : goal.declare_fun-requires-clause-sort
declare_fun-requires-clause-sort c =
    let a = c.args in
    let p = c.requires.parts in
    args-begin a.expr.now a.args.now p.0 p.1 2 (omega (arith, c.in-len3.len_at_least))
