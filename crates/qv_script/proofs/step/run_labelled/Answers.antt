use Rattle.std.proofs.Common.{ℕ, List, Ok, Err, sym, ap, subst, ◌∙◌}
use Rattle.std.specs.Prelude.{Result, Vec, OnErr}
use Rattle.std.specs.declared.alloc.Global.{Global}
use Rattle.std.proofs.lemmas.Result.{err_from_is_err_and}
use Rattle.qv_script_defs.specs.declared.effects.Effect.{Effect as Done}
use Rattle.qv_script_defs.specs.declared.faults.ScriptFault.{ScriptFault}
use Rattle.qv_script_defs.specs.Commands.{labels_of, behind_labels, commanded}
use Rattle.qv_script_parts.specs.Meant.{meant}
use Rattle.qv_script_parts.specs.Walking.{AreLabels, TellsLabels}
use Rattle.qv_script_stack.specs.Steps.{Gives}
use Rattle.qv_script_stack.specs.Changes.{IsLonger}
use Rattle.qv_script.proofs.Labelling.{labels-refused, commanded-is, refused-anyhow}
use Rattle.qv_script.proofs.step.run_labelled.Goals as goal

pub returns-in_err-labels-clause-step : goal.returns-in_err-labels-clause-step
returns-in_err-labels-clause-step c = λ s es h parts.
    let a = c.args in
    let told = subst (λ (r : Result (Vec ℕ Global) ScriptFault). TellsLabels a.expr.now (labels_of (meant a.command) es) r) c.in_err-labels.was (c.labels_of.ensures es parts) in
    let left = err_from_is_err_and c.from_residual.result c.from_residual.ensures.1 in
    subst (λ (r : Result Done ScriptFault). Gives a.store.now a.stack.now (commanded (meant a.command) a.place es s) r) (sym (left.1 ∙ ap Err left.2))
    (labels-refused a.store.now a.stack.now (meant a.command) a.place es s c.in_err-labels.field-0.0 a.expr.now told)

pub run_behind-requires-clause-labels : goal.run_behind-requires-clause-labels
run_behind-requires-clause-labels c =
    let a = c.args in
    let p = c.requires.parts in
    let told = subst (λ (r : Result (Vec ℕ Global) ScriptFault). TellsLabels a.expr.now (labels_of (meant a.command) p.0) r) c.in_ok-labels.was (c.labels_of.ensures p.0 p.1) in
    (told.0, subst (λ (ats : List ℕ). AreLabels a.expr.now ats told.0) (sym c.deref.ensures.value) told.2)

pub returns-in-Ok-clause-step : goal.returns-in-Ok-clause-step
returns-in-Ok-clause-step c = λ s es h parts.
    let a = c.args in
    let told = subst (λ (r : Result (Vec ℕ Global) ScriptFault). TellsLabels a.expr.now (labels_of (meant a.command) es) r) c.in_ok-labels.was (c.labels_of.ensures es parts) in
    let are = subst (λ (ats : List ℕ). AreLabels a.expr.now ats told.0) (sym c.deref.ensures.value) told.2 in
    commanded-is c.run_behind.new.store c.run_behind.new.stack (meant a.command) a.place es s told.0 (Ok c.in-Ok.effect) told.1
    (subst (λ (r : Result Done ScriptFault). Gives c.run_behind.new.store c.run_behind.new.stack (behind_labels (meant a.command) a.place es s told.0) r) c.in-Ok.is (c.run_behind.ensures.step s es told.0 h parts are))

pub undefine-requires : goal.undefine-requires
undefine-requires c =
    (c.args.stack.now, c.mark-mark.ensures, subst (λ (r : Result Done ScriptFault). OnErr r (IsLonger c.args.stack.now c.run_behind.new.stack)) c.in-Err.is c.run_behind.ensures.err)

pub returns-clause-step : goal.returns-clause-step
returns-clause-step c = λ s es h parts.
    let a = c.args in
    let told = subst (λ (r : Result (Vec ℕ Global) ScriptFault). TellsLabels a.expr.now (labels_of (meant a.command) es) r) c.in_ok-labels.was (c.labels_of.ensures es parts) in
    let are = subst (λ (ats : List ℕ). AreLabels a.expr.now ats told.0) (sym c.deref.ensures.value) told.2 in
    let gives = subst (λ (r : Result Done ScriptFault). Gives c.run_behind.new.store c.run_behind.new.stack (behind_labels (meant a.command) a.place es s told.0) r) c.in-Err.is (c.run_behind.ensures.step s es told.0 h parts are) in
    refused-anyhow c.run_behind.new.store c.run_behind.new.stack (meant a.command) a.place es s c.undefine.new.self (commanded (meant a.command) a.place es s) c.in-Err.fault
    (commanded-is c.run_behind.new.store c.run_behind.new.stack (meant a.command) a.place es s told.0 (Err c.in-Err.fault) told.1 gives)

pub returns-clause-err : goal.returns-clause-err
returns-clause-err c =
    c.undefine.ensures c.args.stack.now c.mark-mark.ensures (subst (λ (r : Result Done ScriptFault). OnErr r (IsLonger c.args.stack.now c.run_behind.new.stack)) c.in-Err.is c.run_behind.ensures.err)
