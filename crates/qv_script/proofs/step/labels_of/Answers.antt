use borrow.Author.Tests.{ltb-true, ltb-false}
use Rattle.std.proofs.Common.{◌≤◌, ◌<◌, length, arith}
use Rattle.qv_script_parts.specs.declared.command.Command.TheVariants as code
use Rattle.qv_script_parts.specs.Meant.{meant}
use Rattle.qv_script_defs.specs.Commands.{labels_of}
use Rattle.qv_script.proofs.Calling.{args-begin, one-long, three-long, four-long}
use Rattle.qv_script.proofs.Labelling.{labels-as, labels-none, tells-none, labels-asserted, labels-assumed, labels-asked, labels-constant, labels-function, no-labels, no-assert_labels, no-assumed_labels, no-asked_labels, no-constant_labels, no-function_labels}
use Rattle.qv_script.proofs.step.labels_of.Goals as goal
use Rattle.qv_script.proofs.step.labels_of.Goals.{in_default-args-via-then-args-lt1}
use Rattle.qv_script.proofs.step.labels_of.Goals.{in_default-args-via-else-args-lt1+else-args-lt2}
use Rattle.qv_script.proofs.step.labels_of.Goals.{in_default-args-2-via-then-args-lt1-2}
use Rattle.qv_script.proofs.step.labels_of.Goals.{in_default-args-2-via-else-args-lt1-2+else-args-lt2-2}
use Rattle.qv_script.proofs.step.labels_of.Goals.{in_default-args-3-via-then-args-lt1-3}
use Rattle.qv_script.proofs.step.labels_of.Goals.{in_default-args-3-via-else-args-lt1-3+else-args-lt2-3}
use Rattle.qv_script.proofs.step.labels_of.Goals.{in_default-args-4-via-then-args-lt3}
use Rattle.qv_script.proofs.step.labels_of.Goals.{in_default-args-4-via-else-args-lt3+else-args-lt4}
use Rattle.qv_script.proofs.step.labels_of.Goals.{in_default-args-5-via-then-args-lt4-2}
use Rattle.qv_script.proofs.step.labels_of.Goals.{in_default-args-5-via-else-args-lt4-2+else-args-lt5}

pub returns-in-len1 : goal.returns-in-len1
returns-in-len1 c = λ es parts.
    let a = c.args in
    labels-as a.expr.now a.command code.Assert a.args.now _ c.labels_asserted.result c.in-Assert.is (one-long a.args.now c.in-len1.len_at_least c.in-len1.len_below)
    (λ fs q. labels-asserted a.expr.now _ c.labels_asserted.result c.labels_asserted.ensures fs q) es parts

pub returns-in-len1-args : goal.returns-in-len1-args
returns-in-len1-args c = λ es parts.
    let a = c.args in
    labels-as a.expr.now a.command code.CheckSatAssuming a.args.now _ c.labels_listed.result c.in-CheckSatAssuming.is (one-long a.args.now c.in-len1-args.len_at_least c.in-len1-args.len_below)
    (λ fs q. labels-assumed a.expr.now _ c.labels_listed.result c.labels_listed.ensures fs q) es parts

pub returns-in-len1-args-2 : goal.returns-in-len1-args-2
returns-in-len1-args-2 c = λ es parts.
    let a = c.args in
    labels-as a.expr.now a.command code.GetValue a.args.now _ c.labels_listed-in-len1-args-2.result c.in-GetValue.is (one-long a.args.now c.in-len1-args-2.len_at_least c.in-len1-args-2.len_below)
    (λ fs q. labels-asked a.expr.now _ c.labels_listed-in-len1-args-2.result c.labels_listed-in-len1-args-2.ensures fs q) es parts

pub returns-in-len3 : goal.returns-in-len3
returns-in-len3 c = λ es parts.
    let a = c.args in
    labels-as a.expr.now a.command code.DefineConst a.args.now _ c.labels_in.result c.in-DefineConst.is (three-long a.args.now c.in-len3.len_at_least c.in-len3.len_below)
    (λ fs q. labels-constant a.expr.now _ _ _ c.labels_in.result c.labels_in.ensures fs q) es parts

pub returns-in-len4 : goal.returns-in-len4
returns-in-len4 c = λ es parts.
    let a = c.args in
    labels-as a.expr.now a.command code.DefineFun a.args.now _ c.labels_below.result c.in-DefineFun.is (four-long a.args.now c.in-len4.len_at_least c.in-len4.len_below)
    (λ fs q. labels-function a.expr.now _ _ _ _ c.labels_below.result c.labels_below.ensures fs q) es parts

pub returns-in_default-args : goal.returns-in_default-args
returns-in_default-args c = λ es parts.
    let a = c.args in
    elim c.in_default-args.branch [
      | in_default-args-via-then-args-lt1 w ↦
          let few : length a.args.now < 1 = omega (arith, ltb-true) in
          labels-none a.expr.now a.command code.Assert a.args.now c.new.result c.in-Assert.is c.new.ensures.items (λ fs n. no-assert_labels fs (λ k. omega (arith, n, k, few))) es parts
      | in_default-args-via-else-args-lt1+else-args-lt2 w ↦
          let many : 2 ≤ length a.args.now = omega (arith, ltb-false) in
          labels-none a.expr.now a.command code.Assert a.args.now c.new.result c.in-Assert.is c.new.ensures.items (λ fs n. no-assert_labels fs (λ k. omega (arith, n, k, many))) es parts
    ]

pub returns-in_default-args-2 : goal.returns-in_default-args-2
returns-in_default-args-2 c = λ es parts.
    let a = c.args in
    elim c.in_default-args-2.branch [
      | in_default-args-2-via-then-args-lt1-2 w ↦
          let few : length a.args.now < 1 = omega (arith, ltb-true) in
          labels-none a.expr.now a.command code.CheckSatAssuming a.args.now c.new-in_default-args-2.result c.in-CheckSatAssuming.is c.new-in_default-args-2.ensures.items (λ fs n. no-assumed_labels fs (λ k. omega (arith, n, k, few))) es parts
      | in_default-args-2-via-else-args-lt1-2+else-args-lt2-2 w ↦
          let many : 2 ≤ length a.args.now = omega (arith, ltb-false) in
          labels-none a.expr.now a.command code.CheckSatAssuming a.args.now c.new-in_default-args-2.result c.in-CheckSatAssuming.is c.new-in_default-args-2.ensures.items (λ fs n. no-assumed_labels fs (λ k. omega (arith, n, k, many))) es parts
    ]

pub returns-in_default-args-3 : goal.returns-in_default-args-3
returns-in_default-args-3 c = λ es parts.
    let a = c.args in
    elim c.in_default-args-3.branch [
      | in_default-args-3-via-then-args-lt1-3 w ↦
          let few : length a.args.now < 1 = omega (arith, ltb-true) in
          labels-none a.expr.now a.command code.GetValue a.args.now c.new-in_default-args-3.result c.in-GetValue.is c.new-in_default-args-3.ensures.items (λ fs n. no-asked_labels fs (λ k. omega (arith, n, k, few))) es parts
      | in_default-args-3-via-else-args-lt1-3+else-args-lt2-3 w ↦
          let many : 2 ≤ length a.args.now = omega (arith, ltb-false) in
          labels-none a.expr.now a.command code.GetValue a.args.now c.new-in_default-args-3.result c.in-GetValue.is c.new-in_default-args-3.ensures.items (λ fs n. no-asked_labels fs (λ k. omega (arith, n, k, many))) es parts
    ]

pub returns-in_default-args-4 : goal.returns-in_default-args-4
returns-in_default-args-4 c = λ es parts.
    let a = c.args in
    elim c.in_default-args-4.branch [
      | in_default-args-4-via-then-args-lt3 w ↦
          let few : length a.args.now < 3 = omega (arith, ltb-true) in
          labels-none a.expr.now a.command code.DefineConst a.args.now c.new-in_default-args-4.result c.in-DefineConst.is c.new-in_default-args-4.ensures.items (λ fs n. no-constant_labels fs (λ k. omega (arith, n, k, few))) es parts
      | in_default-args-4-via-else-args-lt3+else-args-lt4 w ↦
          let many : 4 ≤ length a.args.now = omega (arith, ltb-false) in
          labels-none a.expr.now a.command code.DefineConst a.args.now c.new-in_default-args-4.result c.in-DefineConst.is c.new-in_default-args-4.ensures.items (λ fs n. no-constant_labels fs (λ k. omega (arith, n, k, many))) es parts
    ]

pub returns-in_default-args-5 : goal.returns-in_default-args-5
returns-in_default-args-5 c = λ es parts.
    let a = c.args in
    elim c.in_default-args-5.branch [
      | in_default-args-5-via-then-args-lt4-2 w ↦
          let few : length a.args.now < 4 = omega (arith, ltb-true) in
          labels-none a.expr.now a.command code.DefineFun a.args.now c.new-in_default-args-5.result c.in-DefineFun.is c.new-in_default-args-5.ensures.items (λ fs n. no-function_labels fs (λ k. omega (arith, n, k, few))) es parts
      | in_default-args-5-via-else-args-lt4-2+else-args-lt5 w ↦
          let many : 5 ≤ length a.args.now = omega (arith, ltb-false) in
          labels-none a.expr.now a.command code.DefineFun a.args.now c.new-in_default-args-5.result c.in-DefineFun.is c.new-in_default-args-5.ensures.items (λ fs n. no-function_labels fs (λ k. omega (arith, n, k, many))) es parts
    ]

pub returns-in_default : goal.returns-in_default
returns-in_default c = λ es parts.
    let a = c.args in
    let d = c.in_default in
    tells-none a.expr.now (labels_of (meant a.command) es) c.new-in_default.result (no-labels a.command es d.not-Assert d.not-CheckSatAssuming d.not-GetValue d.not-DefineConst d.not-DefineFun) c.new-in_default.ensures.items

pub labels_asserted-requires-clause-t : goal.labels_asserted-requires-clause-t
labels_asserted-requires-clause-t c =
    let a = c.args in
    let p = c.requires.parts in
    args-begin a.expr.now a.args.now p.0 p.1 0 (omega (arith, c.in-len1.len_at_least))

pub labels_listed-requires-clause-at : goal.labels_listed-requires-clause-at
labels_listed-requires-clause-at c =
    let a = c.args in
    let p = c.requires.parts in
    args-begin a.expr.now a.args.now p.0 p.1 0 (omega (arith, c.in-len1-args.len_at_least))

pub labels_listed-requires-in-len1-args-2-clause-at : goal.labels_listed-requires-in-len1-args-2-clause-at
labels_listed-requires-in-len1-args-2-clause-at c =
    let a = c.args in
    let p = c.requires.parts in
    args-begin a.expr.now a.args.now p.0 p.1 0 (omega (arith, c.in-len1-args-2.len_at_least))

pub labels_in-requires-clause-at : goal.labels_in-requires-clause-at
labels_in-requires-clause-at c =
    let a = c.args in
    let p = c.requires.parts in
    args-begin a.expr.now a.args.now p.0 p.1 2 (omega (arith, c.in-len3.len_at_least))

pub labels_below-requires-clause-parameters : goal.labels_below-requires-clause-parameters
labels_below-requires-clause-parameters c =
    let a = c.args in
    let p = c.requires.parts in
    args-begin a.expr.now a.args.now p.0 p.1 1 (omega (arith, c.in-len4.len_at_least))

pub labels_below-requires-clause-body : goal.labels_below-requires-clause-body
labels_below-requires-clause-body c =
    let a = c.args in
    let p = c.requires.parts in
    args-begin a.expr.now a.args.now p.0 p.1 3 (omega (arith, c.in-len4.len_at_least))
