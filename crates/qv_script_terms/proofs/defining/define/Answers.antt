use Rattle.qv_elab_scope.specs.Force.{Force}
use Rattle.std.proofs.Common.{Err, refl, ap, sym, subst, ◌∙◌}
use Rattle.std.proofs.lemmas.Result.{err_from_is_err_and}
use Rattle.std.specs.Prelude.{Result}
use Rattle.qv_elab_defs.specs.declared.faults.ElabFault.{ElabFault}
use Rattle.qv_elab_defs.specs.Defining.{definition}
use Rattle.qv_words.specs.declared.sort.Sort.{Sort}
use Rattle.qv_elab_defs.specs.Synonyms.{scoped_sort}
use Rattle.qv_elab_defs.specs.Answers.{ReadsSort}
use Rattle.qv_elab_macros.specs.declared.body.Body.{Body}
use Rattle.qv_elab_scope.specs.Kept.{IsScopeIn}
use Rattle.qv_elab.specs.ReadBodies.{parameters_of, Reads}
use Rattle.qv_elab.proofs.OwnReadings.{written}
use Rattle.qv_script_defs.specs.declared.effects.Effect.{Effect as Done}
use Rattle.qv_script_defs.specs.declared.faults.ScriptFault.{ScriptFault}
use Rattle.qv_script_terms.specs.Defined.{defined}
use Rattle.qv_script_stack.specs.Steps.{Gives}
use Rattle.qv_script_defs.specs.State.{scope_of, with_entry}
use Rattle.qv_script_defs.specs.Moves.{Quiet}
use Rattle.qv_script_stack.specs.Held.{Held, IsScriptIn}
use Rattle.qv_script_stack.proofs.Asserting.{script-grows}
use Rattle.qv_elab_defs.specs.Scopes.{outermost}
use Rattle.qv_elab_defs.specs.Beginnings.{beginning}
use Rattle.qv_elab_defs.proofs.Beginning.{begins-ok}
use Rattle.qv_script_stack.proofs.Stepping.{runs-anyhow}
use Rattle.qv_script_terms.specs.Beginnings.{term_beginning, body_beginning}
use Rattle.qv_script_terms.proofs.Formulas.{begins-runs, inside-ok}
use Rattle.qv_script_terms.proofs.Definitions.{sort-runs, body-runs, sort-fault, body-fault, sorts-of, sort-faulty, body-faulty, defined-done, defined-held}
use Rattle.qv_script_terms.proofs.defining.define.Goals as goal

pub returns-in_err-sort-clause-step : goal.returns-in_err-sort-clause-step
returns-in_err-sort-clause-step c = λ s e b h p q.
    let a = c.args in
    let xs = parameters_of a.parameters.now in
    let sorts = subst (λ (f : Force). IsScopeIn a.store.now f (scope_of s)) (sym c.scope.ensures) h.scope in
    let told = subst (λ (r : Result Sort ElabFault). ReadsSort (scoped_sort (scope_of s) e) r) c.in_err-sort.was (c.scoped_sort.ensures a.store.now (scope_of s) e p.0 sorts p.1) in
    let left = err_from_is_err_and c.from_residual.result c.from_residual.ensures.1 in
    subst (λ (r : Result Done ScriptFault). Gives a.store.now a.stack.now (defined s a.name.now xs e b) r) (sym (left.1 ∙ ap Err left.2))
    (sort-faulty s a.name.now xs e b a.store.now a.stack.now c.in_err-sort.field-0.0 (sort-fault (scoped_sort (scope_of s) e) c.in_err-sort.field-0.0 told))

pub returns-in_err-body-clause-step : goal.returns-in_err-body-clause-step
returns-in_err-body-clause-step c = λ s e b h p q.
    let a = c.args in
    let trees = c.elaborate_body.new.store in
    let xs = parameters_of a.parameters.now in
    let sorts = subst (λ (f : Force). IsScopeIn a.store.now f (scope_of s)) (sym c.scope.ensures) h.scope in
    let scope = subst (λ (f : Force). IsScopeIn a.store.now f (scope_of s)) (sym c.scope-2.ensures) h.scope in
    let sort = subst (λ (r : Result Sort ElabFault). ReadsSort (scoped_sort (scope_of s) e) r) c.in_ok-sort.was (c.scoped_sort.ensures a.store.now (scope_of s) e p.0 sorts p.1) in
    let told = subst (λ (r : Result Body ElabFault). Reads trees (scope_of s) xs c.in_ok-sort.sort b r) c.in_err-body.was (c.elaborate_body.ensures.reads (scope_of s) b q.0 scope q.1) in
    let left = err_from_is_err_and c.from_residual-in_err-body.result c.from_residual-in_err-body.ensures.1 in
    subst (λ (r : Result Done ScriptFault). Gives trees a.stack.now (defined s a.name.now xs e b) r) (sym (left.1 ∙ ap Err left.2))
    (body-faulty s a.name.now xs e b trees a.stack.now c.in_ok-sort.sort c.in_err-body.field-0.0 sort (body-fault trees (scope_of s) xs c.in_ok-sort.sort b c.in_err-body.field-0.0 told))

pub returns-clause-step : goal.returns-clause-step
returns-clause-step c = λ s e b h p q.
    let a = c.args in
    let trees = c.elaborate_body.new.store in
    let xs = parameters_of a.parameters.now in
    let now = with_entry a.name.now (definition (scope_of s) xs b) s in
    let sorts = subst (λ (f : Force). IsScopeIn a.store.now f (scope_of s)) (sym c.scope.ensures) h.scope in
    let scope = subst (λ (f : Force). IsScopeIn a.store.now f (scope_of s)) (sym c.scope-2.ensures) h.scope in
    let sort = subst (λ (r : Result Sort ElabFault). ReadsSort (scoped_sort (scope_of s) e) r) c.in_ok-sort.was (c.scoped_sort.ensures a.store.now (scope_of s) e p.0 sorts p.1) in
    let reading = subst (λ (r : Result Body ElabFault). Reads trees (scope_of s) xs c.in_ok-sort.sort b r) c.in_ok-body.was (c.elaborate_body.ensures.reads (scope_of s) b q.0 scope q.1) in
    let tokens = written a.expr.now.items.items a.expr.now.text.items a.t b q.0 q.1 in
    let kept = script-grows a.store.now trees c.elaborate_body.ensures.grows a.stack.now s h in (
      now,
      Quiet,
      defined-done s a.name.now xs e b c.in_ok-sort.sort reading.tree sort reading.reading,
      subst (λ (k : Held). IsScriptIn trees k now) (sym c.in_ok-add_definition.ensures.ok)
          (defined-held s a.name.now xs e b trees a.stack.now c.in_ok-sort.sort c.in_ok-sorts.sorts c.in_ok-body.body c.requires.parameters tokens reading (c.in_ok-sorts.ensures ∙ sorts-of a.parameters.now) kept),
      refl,
    )

pub returns-clause-lasts : goal.returns-clause-lasts
returns-clause-lasts c = ap (λ (k : Held). k.last) c.in_ok-add_definition.ensures.ok

pub returns-in_err-sort-clause-short : goal.returns-in_err-sort-clause-short
returns-in_err-sort-clause-short c = λ s e b h p q none.
    let a = c.args in
    let sorts = subst (λ (f : Force). IsScopeIn a.store.now f (scope_of s)) (sym c.scope.ensures) h.scope in
    let told = subst (λ (r : Result Sort ElabFault). ReadsSort (scoped_sort (scope_of s) e) r) c.in_err-sort.was (c.scoped_sort.ensures a.store.now (scope_of s) e p.0 sorts p.1) in
    let left = err_from_is_err_and c.from_residual.result c.from_residual.ensures.1 in
    sort-runs (body_beginning s e b) (scoped_sort (scope_of s) e) c.in_err-sort.field-0.0 left.0 c.from_residual.result told left.1 left.2

pub returns-in_err-body-clause-short : goal.returns-in_err-body-clause-short
returns-in_err-body-clause-short c = λ s e b h p q none.
    let a = c.args in
    let sorts = subst (λ (f : Force). IsScopeIn a.store.now f (scope_of s)) (sym c.scope.ensures) h.scope in
    let sort = subst (λ (r : Result Sort ElabFault). ReadsSort (scoped_sort (scope_of s) e) r) c.in_ok-sort.was (c.scoped_sort.ensures a.store.now (scope_of s) e p.0 sorts p.1) in
    let scope = subst (λ (f : Force). IsScopeIn a.store.now f (scope_of s)) (sym c.scope-2.ensures) h.scope in
    let first = c.elaborate_body.ensures.begins (scope_of s) b q.0 scope q.1 none in
    let left = err_from_is_err_and c.from_residual-in_err-body.result c.from_residual-in_err-body.ensures.1 in
    body-runs s e b c.in_ok-sort.sort c.from_residual-in_err-body.result sort
    (begins-runs (beginning b (outermost (scope_of s))) c.elaborate_body.result c.in_err-body.field-0.0 left.0 c.from_residual-in_err-body.result first c.in_err-body.was left.1 left.2)

pub returns-in_err-sorts-clause-short : goal.returns-in_err-sorts-clause-short
returns-in_err-sorts-clause-short c = λ s e b h p q none.
    let a = c.args in
    let sorts = subst (λ (f : Force). IsScopeIn a.store.now f (scope_of s)) (sym c.scope.ensures) h.scope in
    let sort = subst (λ (r : Result Sort ElabFault). ReadsSort (scoped_sort (scope_of s) e) r) c.in_ok-sort.was (c.scoped_sort.ensures a.store.now (scope_of s) e p.0 sorts p.1) in
    let scope = subst (λ (f : Force). IsScopeIn a.store.now f (scope_of s)) (sym c.scope-2.ensures) h.scope in
    let first = c.elaborate_body.ensures.begins (scope_of s) b q.0 scope q.1 none in
    body-runs s e b c.in_ok-sort.sort c.from_residual-in_err-sorts.result sort
    (runs-anyhow (term_beginning s b) c.from_residual-in_err-sorts.result (inside-ok (beginning b (outermost (scope_of s))) (begins-ok (beginning b (outermost (scope_of s))) c.elaborate_body.result c.in_ok-body.body c.in_ok-body.was first)))

pub returns-in_err-add_definition-clause-short : goal.returns-in_err-add_definition-clause-short
returns-in_err-add_definition-clause-short c = λ s e b h p q none.
    let a = c.args in
    let sorts = subst (λ (f : Force). IsScopeIn a.store.now f (scope_of s)) (sym c.scope.ensures) h.scope in
    let sort = subst (λ (r : Result Sort ElabFault). ReadsSort (scoped_sort (scope_of s) e) r) c.in_ok-sort.was (c.scoped_sort.ensures a.store.now (scope_of s) e p.0 sorts p.1) in
    let scope = subst (λ (f : Force). IsScopeIn a.store.now f (scope_of s)) (sym c.scope-2.ensures) h.scope in
    let first = c.elaborate_body.ensures.begins (scope_of s) b q.0 scope q.1 none in
    body-runs s e b c.in_ok-sort.sort c.from_residual-in_err-add_definition.result sort
    (runs-anyhow (term_beginning s b) c.from_residual-in_err-add_definition.result (inside-ok (beginning b (outermost (scope_of s))) (begins-ok (beginning b (outermost (scope_of s))) c.elaborate_body.result c.in_ok-body.body c.in_ok-body.was first)))
