use borrow.Author.Tests.{ltb-true, ltb-false}
use Rattle.std.proofs.Common.{◌≤◌, ◌<◌, length, refl, arith}
use Rattle.qv_script_parts.specs.declared.command.Command.TheVariants as code
use Rattle.qv_script_plain.proofs.Plain.{no-define-sort}
use Rattle.qv_script.proofs.Calling.{args-begin, steps-as, steps-form, three-long}
use Rattle.qv_script.proofs.step.define_shaped.Goals as goal
use Rattle.qv_script.proofs.step.define_shaped.Goals.{in_default-via-then-args-lt3}
use Rattle.qv_script.proofs.step.define_shaped.Goals.{in_default-via-else-args-lt3+else-args-lt4}

pub define_sort-requires-clause-sort : goal.define_sort-requires-clause-sort
define_sort-requires-clause-sort c =
    let a = c.args in
    let p = c.requires.parts in
    args-begin a.expr.now a.args.now p.0 p.1 2 (omega (arith, c.in-len3.len_at_least))

pub returns-in-len3-clause-step : goal.returns-in-len3-clause-step
returns-in-len3-clause-step c =
    let a = c.args in
    steps-as a.place a.expr.now code.DefineSort code.DefineSort a.args.now _ a.stack.now c.define_sort.new.stack c.define_sort.result refl (three-long a.args.now c.in-len3.len_at_least c.in-len3.len_below) c.define_sort.ensures.step

pub returns-in_default-clause-step : goal.returns-in_default-clause-step
returns-in_default-clause-step c =
    let a = c.args in
    elim c.in_default.branch [
      | in_default-via-then-args-lt3 w ↦
          let few : length a.args.now < 3 = omega (arith, ltb-true) in
          steps-form a.place a.expr.now code.DefineSort code.DefineSort a.args.now a.stack.now a.stack.now c.fault_at.result refl c.fault_at.ensures (λ s es n. no-define-sort a.place s es (λ k. omega (arith, n, k, few)))
      | in_default-via-else-args-lt3+else-args-lt4 w ↦
          let many : 4 ≤ length a.args.now = omega (arith, ltb-false) in
          steps-form a.place a.expr.now code.DefineSort code.DefineSort a.args.now a.stack.now a.stack.now c.fault_at.result refl c.fault_at.ensures (λ s es n. no-define-sort a.place s es (λ k. omega (arith, n, k, many)))
    ]
