use Rattle.std.proofs.Common.{ℕ, None, Err, sym, ap, subst, ◌∙◌}
use Rattle.std.specs.Prelude.{Result}
use Rattle.std.proofs.lemmas.Result.{err_from_is_err_and}
use Rattle.qv_script_defs.specs.declared.effects.Effect.{Effect as Done}
use Rattle.qv_script_defs.specs.declared.faults.ScriptFault.{ScriptFault}
use Rattle.qv_script_defs.specs.State.{scope_of}
use Rattle.qv_script_defs.specs.Moves.{assert}
use Rattle.qv_script_terms.specs.Told.{formula_of, TellsTree}
use Rattle.qv_script_stack.specs.Steps.{Gives}
use Rattle.qv_script_stack.proofs.Asserting.{script-grows}
use Rattle.qv_script_terms.specs.Beginnings.{term_beginning}
use Rattle.qv_script_stack.proofs.Stepping.{runs-same, runs-anyhow}
use Rattle.qv_script_terms.proofs.Formulas.{assert-faulty, assert-done, formula-begins}
use Rattle.qv_script_terms.proofs.terms.assert_plain.Goals as goal

pub formula-requires-clause-scope : goal.formula-requires-clause-scope
formula-requires-clause-scope c = let s = c.requires.held in (scope_of s.0, s.1.scope)

pub returns-in_err-id-clause-step : goal.returns-in_err-id-clause-step
returns-in_err-id-clause-step c = λ place s e h p.
    let told = subst (λ (r : Result ℕ ScriptFault). TellsTree c.formula.new.store (formula_of (scope_of s) e e) r) c.in_err-id.was (c.formula.ensures.tells (scope_of s) e e h.scope p p) in
    let left = err_from_is_err_and c.from_residual.result c.from_residual.ensures.1 in
    subst (λ (r : Result Done ScriptFault). Gives c.formula.new.store c.args.stack.now (assert place s e None e) r) (sym (left.1 ∙ ap Err left.2))
    (assert-faulty c.formula.new.store c.args.stack.now s place e c.in_err-id.field-0.0 told)

pub returns-clause-step : goal.returns-clause-step
returns-clause-step c = λ place s e h p.
    let told = subst (λ (r : Result ℕ ScriptFault). TellsTree c.formula.new.store (formula_of (scope_of s) e e) r) c.in_ok-id.was (c.formula.ensures.tells (scope_of s) e e h.scope p p) in
    let kept = script-grows c.args.store.now c.formula.new.store c.formula.ensures.grows c.args.stack.now s h in
    assert-done c.formula.new.store c.args.stack.now c.add_assertion.new.self s place e c.in_ok-id.id c.in_ok-add_assertion.ensures.ok told kept

pub returns-in_err-id-clause-short : goal.returns-in_err-id-clause-short
returns-in_err-id-clause-short c = λ s e h p.
    let left = err_from_is_err_and c.from_residual.result c.from_residual.ensures.1 in
    runs-same (term_beginning s e) c.formula.result c.in_err-id.field-0.0 left.0 c.from_residual.result (c.formula.ensures.short (scope_of s) e h.scope p) c.in_err-id.was left.1 left.2

pub returns-in_err-add_assertion-clause-short : goal.returns-in_err-add_assertion-clause-short
returns-in_err-add_assertion-clause-short c = λ s e h p.
    let told = subst (λ (r : Result ℕ ScriptFault). TellsTree c.formula.new.store (formula_of (scope_of s) e e) r) c.in_ok-id.was (c.formula.ensures.tells (scope_of s) e e h.scope p p) in
    runs-anyhow (term_beginning s e) c.from_residual-in_err-add_assertion.result (formula-begins c.formula.new.store (scope_of s) e e c.in_ok-id.id told)
