use Rattle.qv_elab_scope.specs.Force.{Force}
use Rattle.std.proofs.Common.{ℕ, Err, sym, ap, subst, ◌∙◌}
use Rattle.std.specs.Prelude.{Result}
use Rattle.std.proofs.lemmas.Result.{err_from_is_err_and}
use Rattle.qv_sexpr.proofs.Copies.{begun}
use Rattle.qv_elab_defs.specs.declared.faults.ElabFault.{ElabFault}
use Rattle.qv_elab_defs.specs.Answers.{Answers}
use Rattle.qv_elab_defs.specs.Defining.{elaborate}
use Rattle.qv_elab_scope.specs.Kept.{IsScopeIn}
use Rattle.qv_elab_defs.specs.Tokens.{place_of}
use Rattle.qv_elab.proofs.OwnReadings.{place-is}
use Rattle.qv_elab_items.proofs.Slices.{read-item}
use Rattle.qv_script_defs.specs.declared.faults.ScriptFault.TheVariants.{At}
use Rattle.qv_script_defs.specs.declared.faults.ScriptKind.TheVariants.{Sorts}
use Rattle.qv_script_defs.specs.Faults.{inside}
use Rattle.qv_elab_defs.specs.Scopes.{outermost}
use Rattle.qv_elab_defs.specs.Beginnings.{beginning}
use Rattle.qv_script_stack.proofs.Stepping.{refused-runs}
use Rattle.qv_script_terms.proofs.Formulas.{formula-faulty, formula-other, formula-told, begins-runs}
use Rattle.qv_script_terms.proofs.terms.formula.Goals as goal

pub sort-requires : goal.sort-requires
sort-requires c =
    let a = c.args in
    let s = c.requires.scope in
    let there = begun a.expr.now a.at c.requires.expr c.requires.at in
    let scope = subst (λ (f : Force). IsScopeIn a.store.now f s.0) (sym c.scope.ensures) s.1 in
    let told = subst (λ (r : Result ℕ ElabFault). Answers c.elaborate.new.store (elaborate s.0 there.0) r) c.in_ok-id.was (c.elaborate.ensures.answers s.0 there.0 there.1 scope there.2) in
    told.2.below

pub returns-in_err-id-clause-tells : goal.returns-in_err-id-clause-tells
returns-in_err-id-clause-tells c = λ defs e w s p q.
    let a = c.args in
    let scope = subst (λ (f : Force). IsScopeIn a.store.now f defs) (sym c.scope.ensures) s in
    let told = subst (λ (r : Result ℕ ElabFault). Answers c.elaborate.new.store (elaborate defs e) r) c.in_err-id.was (c.elaborate.ensures.answers defs e p.0 scope p.1) in
    let left = err_from_is_err_and c.from_residual.result c.from_residual.ensures.1 in
    formula-faulty c.elaborate.new.store (elaborate defs e) (place_of w) c.in_err-id.field-0.0 c.from_residual.result told (left.1 ∙ ap Err left.2)

pub returns-then-not-is_bool-clause-tells : goal.returns-then-not-is_bool-clause-tells
returns-then-not-is_bool-clause-tells c = λ defs e w s p q.
    let a = c.args in
    let scope = subst (λ (f : Force). IsScopeIn a.store.now f defs) (sym c.scope.ensures) s in
    let told = subst (λ (r : Result ℕ ElabFault). Answers c.elaborate.new.store (elaborate defs e) r) c.in_ok-id.was (c.elaborate.ensures.answers defs e p.0 scope p.1) in
    let item = read-item a.expr.now.items.items a.whole c.requires.whole.0 c.index.result.now c.requires.whole.1 c.index.ensures in
    let place = place-is a.expr.now.items.items a.expr.now.text.items a.whole w q.0 c.index.result.now q.1 item in
    formula-other c.elaborate.new.store (elaborate defs e) (place_of w) c.in_ok-id.id c.sort.result c.fault_at.result told c.sort.ensures.sort (sym c.is_bool.ensures ∙ c.if-not-is_bool.true)
    (c.fault_at.ensures ∙ ap (λ n. At n Sorts) (sym place))

pub returns-clause-tells : goal.returns-clause-tells
returns-clause-tells c = λ defs e w s p q.
    let a = c.args in
    let scope = subst (λ (f : Force). IsScopeIn a.store.now f defs) (sym c.scope.ensures) s in
    let told = subst (λ (r : Result ℕ ElabFault). Answers c.elaborate.new.store (elaborate defs e) r) c.in_ok-id.was (c.elaborate.ensures.answers defs e p.0 scope p.1) in
    formula-told c.elaborate.new.store (elaborate defs e) (place_of w) c.in_ok-id.id c.sort.result told c.sort.ensures.sort (sym c.is_bool.ensures ∙ c.if-not-is_bool.false)

pub returns-in_err-id-clause-short : goal.returns-in_err-id-clause-short
returns-in_err-id-clause-short c = λ defs e s p.
    let scope = subst (λ (f : Force). IsScopeIn c.args.store.now f defs) (sym c.scope.ensures) s in
    let left = err_from_is_err_and c.from_residual.result c.from_residual.ensures.1 in
    begins-runs (beginning e (outermost defs)) c.elaborate.result c.in_err-id.field-0.0 left.0 c.from_residual.result (c.elaborate.ensures.begins defs e p.0 scope p.1) c.in_err-id.was left.1 left.2

pub returns-then-not-is_bool-clause-short : goal.returns-then-not-is_bool-clause-short
returns-then-not-is_bool-clause-short c = λ defs e s p. refused-runs ℕ (inside (beginning e (outermost defs))) c.index.result.now.place Sorts c.fault_at.result c.fault_at.ensures
