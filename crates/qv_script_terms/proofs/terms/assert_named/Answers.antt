use Rattle.std.proofs.Common.{◌≡◌, ℕ, true, false, Some, Err, sym, ap, subst, ◌∙◌}
use Rattle.std.specs.Prelude.{Result}
use Rattle.std.proofs.lemmas.Result.{err_from_is_err_and}
use Rattle.qv_elab.proofs.OwnReadings.{written}
use Rattle.qv_script_defs.specs.declared.effects.Effect.{Effect as Done}
use Rattle.qv_script_defs.specs.declared.faults.ScriptFault.{ScriptFault}
use Rattle.qv_script_defs.specs.declared.faults.ScriptKind.TheVariants.{NameInUse}
use Rattle.qv_script_defs.specs.State.{scope_of, is_taken}
use Rattle.qv_script_defs.specs.Moves.{fresh, assert_named}
use Rattle.qv_script_terms.specs.Told.{formula_of, TellsTree}
use Rattle.qv_script_stack.specs.Steps.{Gives}
use Rattle.qv_script_stack.proofs.Holding.{taken-held}
use Rattle.qv_script_stack.proofs.Stepping.{gives-fault, refused-runs, runs-same, runs-anyhow, runs-behind}
use Rattle.qv_script_stack.proofs.Asserting.{script-grows}
use Rattle.qv_script_terms.specs.Beginnings.{term_beginning, assert_beginning}
use Rattle.qv_script_terms.proofs.Formulas.{named-taken, named-faulty, named-done, formula-begins, is-fresh}
use Rattle.qv_script_terms.proofs.terms.assert_named.Goals as goal

pub returns-then-is_taken-clause-step : goal.returns-then-is_taken-clause-step
returns-then-is_taken-clause-step c = λ s w e h p q.
    let a = c.args in
    let taken : is_taken s a.name.now ≡ true = sym (taken-held a.store.now _ s a.name.now h) ∙ sym c.is_taken.ensures ∙ c.if-is_taken.true in
    gives-fault a.store.now a.stack.now (assert_named a.place s w e a.name.now) a.place NameInUse c.fault_at.result c.fault_at.ensures (named-taken a.place s w e a.name.now taken)

pub formula-requires-clause-scope : goal.formula-requires-clause-scope
formula-requires-clause-scope c = let s = c.requires.held in (scope_of s.0, s.1.scope)

pub returns-in_err-id-clause-step : goal.returns-in_err-id-clause-step
returns-in_err-id-clause-step c = λ s w e h p q.
    let a = c.args in
    let free : is_taken s a.name.now ≡ false = sym (taken-held a.store.now _ s a.name.now h) ∙ sym c.is_taken.ensures ∙ c.if-is_taken.false in
    let told = subst (λ (r : Result ℕ ScriptFault). TellsTree c.formula.new.store (formula_of (scope_of s) e w) r) c.in_err-id.was (c.formula.ensures.tells (scope_of s) e w h.scope q p) in
    let left = err_from_is_err_and c.from_residual.result c.from_residual.ensures.1 in
    subst (λ (r : Result Done ScriptFault). Gives c.formula.new.store a.stack.now (assert_named a.place s w e a.name.now) r) (sym (left.1 ∙ ap Err left.2))
    (named-faulty c.formula.new.store a.stack.now s a.place w e a.name.now c.in_err-id.field-0.0 free told)

pub returns-clause-step : goal.returns-clause-step
returns-clause-step c = λ s w e h p q.
    let a = c.args in
    let free : is_taken s a.name.now ≡ false = sym (taken-held a.store.now _ s a.name.now h) ∙ sym c.is_taken.ensures ∙ c.if-is_taken.false in
    let told = subst (λ (r : Result ℕ ScriptFault). TellsTree c.formula.new.store (formula_of (scope_of s) e w) r) c.in_ok-id.was (c.formula.ensures.tells (scope_of s) e w h.scope q p) in
    let grown = script-grows a.store.now c.formula.new.store c.formula.ensures.grows a.stack.now s h in
    named-done c.formula.new.store a.stack.now c.add_named.new.self s a.place w e a.name.now c.in_ok-id.id (written a.expr.now.items.items a.expr.now.text.items a.term e q.0 q.1) free c.in_ok-add_named.ensures.ok told grown

pub returns-then-is_taken-clause-short : goal.returns-then-is_taken-clause-short
returns-then-is_taken-clause-short c = λ s w e h p q. refused-runs Done (assert_beginning c.args.place s (Some c.args.name.now) e) c.args.place NameInUse c.fault_at.result c.fault_at.ensures

pub returns-in_err-id-clause-short : goal.returns-in_err-id-clause-short
returns-in_err-id-clause-short c = λ s w e h p q.
    let a = c.args in
    let free : is_taken s a.name.now ≡ false = sym (taken-held a.store.now _ s a.name.now h) ∙ sym c.is_taken.ensures ∙ c.if-is_taken.false in
    let left = err_from_is_err_and c.from_residual.result c.from_residual.ensures.1 in
    runs-behind (fresh a.place s a.name.now) tt (λ _. term_beginning s e) c.from_residual.result (is-fresh a.place s a.name.now free)
    (runs-same (term_beginning s e) c.formula.result c.in_err-id.field-0.0 left.0 c.from_residual.result (c.formula.ensures.short (scope_of s) e h.scope q) c.in_err-id.was left.1 left.2)

pub returns-in_err-add_named-clause-short : goal.returns-in_err-add_named-clause-short
returns-in_err-add_named-clause-short c = λ s w e h p q.
    let a = c.args in
    let free : is_taken s a.name.now ≡ false = sym (taken-held a.store.now _ s a.name.now h) ∙ sym c.is_taken.ensures ∙ c.if-is_taken.false in
    let told = subst (λ (r : Result ℕ ScriptFault). TellsTree c.formula.new.store (formula_of (scope_of s) e w) r) c.in_ok-id.was (c.formula.ensures.tells (scope_of s) e w h.scope q p) in
    runs-behind (fresh a.place s a.name.now) tt (λ _. term_beginning s e) c.from_residual-in_err-add_named.result (is-fresh a.place s a.name.now free)
    (runs-anyhow (term_beginning s e) c.from_residual-in_err-add_named.result (formula-begins c.formula.new.store (scope_of s) e w c.in_ok-id.id told))
