use Rattle.std.proofs.Common.{◌≡◌, ℕ, true, false, Some, List, [], ◌∷◌, Ok, Err, sym, ap, subst, ◌∙◌}
use Rattle.std.specs.Prelude.{Result, Vec}
use Rattle.std.specs.declared.alloc.Global.{Global}
use Rattle.std.proofs.lemmas.Result.{err_from_is_err_and}
use Rattle.qv_sexpr.specs.Script.{Tree as Written}
use Rattle.qv_sexpr.proofs.Copies.{begun}
use Rattle.qv_script_defs.specs.declared.effects.Effect.{Effect as Done}
use Rattle.qv_script_defs.specs.declared.effects.Effect.TheVariants as done
use Rattle.qv_script_defs.specs.declared.effects.ValueTerm.{ValueTerm as Asked}
use Rattle.qv_script_defs.specs.declared.faults.ScriptFault.{ScriptFault}
use Rattle.qv_script_defs.specs.Moves.{has_model, value_terms}
use Rattle.qv_script_defs.specs.Commands.{GetValue, step}
use Rattle.qv_script_parts.specs.Parted.{inside_of, is_empty_list}
use Rattle.qv_script_terms.specs.Asking.{TellsValues}
use Rattle.qv_script_terms.specs.Beginnings.{command_beginning}
use Rattle.qv_script_parts.specs.Parted.{AreParts}
use Rattle.qv_script_stack.specs.Steps.{Gives}
use Rattle.qv_script_terms.proofs.Asked.{get-value-faulty, get-value-done, get-value-begins}
use Rattle.qv_script_stack.proofs.Asserting.{script-grows}
use Rattle.qv_script_stack.proofs.Stepping.{one-part, runs-out}
use Rattle.qv_script_terms.proofs.asking.get_value.Goals as goal

pub value_terms-requires-clause-parts : goal.value_terms-requires-clause-parts
value_terms-requires-clause-parts c =
    let b = begun c.args.expr.now c.args.ts c.requires.expr c.requires.ts in
    (inside_of b.0, subst (λ (ats : List ℕ). AreParts c.args.expr.now ats (inside_of b.0)) (sym c.deref.ensures.value) (c.in_ok-parts.ensures b.0 (b.1, b.2)))

pub returns-in_err-terms-clause-step : goal.returns-in_err-terms-clause-step
returns-in_err-terms-clause-step c = λ s es h parts.
    let a = c.args in
    let trees = c.value_terms.new.store in
    let one = one-part a.expr.now a.ts es parts in
    let filled : is_empty_list one.0 ≡ Some false = sym (c.is_empty_list.ensures one.0 one.2) ∙ c.in-Some-false.is ∙ ap Some c.in-Some-false.field-0-test in
    let model : has_model s.last ≡ true = ap has_model (sym h.last) ∙ sym c.has_model.ensures ∙ c.if-not-has_model.false in
    let inner = subst (λ (ats : List ℕ). AreParts a.expr.now ats (inside_of one.0)) (sym c.deref.ensures.value) (c.in_ok-parts.ensures one.0 one.2) in
    let told = subst (λ (r : Result (Vec Asked Global) ScriptFault). TellsValues trees (value_terms s (inside_of one.0)) r) c.in_err-terms.was (c.value_terms.ensures.tells s (inside_of one.0) h inner) in
    let left = err_from_is_err_and c.from_residual-in_err-terms.result c.from_residual-in_err-terms.ensures.1 in
    subst (λ (xs : List Written). Gives trees a.stack.now (step GetValue a.place xs s) c.from_residual-in_err-terms.result) (sym one.1)
    (subst (λ (r : Result Done ScriptFault). Gives trees a.stack.now (step GetValue a.place (one.0 ∷ []) s) r) (sym (left.1 ∙ ap Err left.2))
    (get-value-faulty a.place s trees a.stack.now one.0 c.in_err-terms.field-0.0 filled model told))

pub returns-clause-step : goal.returns-clause-step
returns-clause-step c = λ s es h parts.
    let a = c.args in
    let trees = c.value_terms.new.store in
    let one = one-part a.expr.now a.ts es parts in
    let filled : is_empty_list one.0 ≡ Some false = sym (c.is_empty_list.ensures one.0 one.2) ∙ c.in-Some-false.is ∙ ap Some c.in-Some-false.field-0-test in
    let model : has_model s.last ≡ true = ap has_model (sym h.last) ∙ sym c.has_model.ensures ∙ c.if-not-has_model.false in
    let inner = subst (λ (ats : List ℕ). AreParts a.expr.now ats (inside_of one.0)) (sym c.deref.ensures.value) (c.in_ok-parts.ensures one.0 one.2) in
    let told = subst (λ (r : Result (Vec Asked Global) ScriptFault). TellsValues trees (value_terms s (inside_of one.0)) r) c.in_ok-terms.was (c.value_terms.ensures.tells s (inside_of one.0) h inner) in
    let kept = script-grows a.store.now trees c.value_terms.ensures.grows a.stack.now s h in
    subst (λ (xs : List Written). Gives trees a.stack.now (step GetValue a.place xs s) (Ok (done.Values c.in_ok-terms.terms))) (sym one.1)
    (get-value-done a.place s trees a.stack.now one.0 c.in_ok-terms.terms filled model told kept)

pub returns-in_err-parts-clause-short : goal.returns-in_err-parts-clause-short
returns-in_err-parts-clause-short c = λ s es h parts.
    let a = c.args in
    let one = one-part a.expr.now a.ts es parts in
    let filled : is_empty_list one.0 ≡ Some false = sym (c.is_empty_list.ensures one.0 one.2) ∙ c.in-Some-false.is ∙ ap Some c.in-Some-false.field-0-test in
    let model : has_model s.last ≡ true = ap has_model (sym h.last) ∙ sym c.has_model.ensures ∙ c.if-not-has_model.false in
    runs-out (command_beginning GetValue a.place es s) tt c.from_residual.result
    (ap (λ (xs : List Written). command_beginning GetValue a.place xs s) one.1 ∙ get-value-begins a.place s one.0 filled model)

pub returns-in_err-terms-clause-short : goal.returns-in_err-terms-clause-short
returns-in_err-terms-clause-short c = λ s es h parts.
    let a = c.args in
    let one = one-part a.expr.now a.ts es parts in
    let filled : is_empty_list one.0 ≡ Some false = sym (c.is_empty_list.ensures one.0 one.2) ∙ c.in-Some-false.is ∙ ap Some c.in-Some-false.field-0-test in
    let model : has_model s.last ≡ true = ap has_model (sym h.last) ∙ sym c.has_model.ensures ∙ c.if-not-has_model.false in
    runs-out (command_beginning GetValue a.place es s) tt c.from_residual-in_err-terms.result
    (ap (λ (xs : List Written). command_beginning GetValue a.place xs s) one.1 ∙ get-value-begins a.place s one.0 filled model)
