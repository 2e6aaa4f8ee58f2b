use Rattle.qv_elab_scope.specs.Force.{Force}
use Rattle.std.proofs.Common.{ℕ, refl, sym, subst, ◌∙◌}
use Rattle.std.specs.Prelude.{Result}
use Rattle.qv_sexpr.proofs.Copies.{begun}
use Rattle.qv_elab_defs.specs.declared.faults.ElabFault.{ElabFault}
use Rattle.qv_elab_defs.specs.Answers.{Answers}
use Rattle.qv_elab_defs.specs.Defining.{elaborate}
use Rattle.qv_elab_scope.specs.Kept.{IsScopeIn}
use Rattle.qv_elab.proofs.OwnReadings.{place-is}
use Rattle.qv_elab_items.proofs.Slices.{read-item}
use Rattle.qv_script_terms.proofs.Asked.{value-quantified, value-told}
use Rattle.qv_script_terms.proofs.asking.value_term.Goals as goal

pub quantified-requires : goal.quantified-requires
quantified-requires c =
    let a = c.args in
    let s = c.requires.scope in
    let there = begun a.expr.now a.at c.requires.expr c.requires.at in
    let scope = subst (λ (f : Force). IsScopeIn a.store.now f s.0) (sym c.scope.ensures) s.1 in
    let told = subst (λ (r : Result ℕ ElabFault). Answers c.elaborate.new.store (elaborate s.0 there.0) r) c.in_ok-id.was (c.elaborate.ensures.answers s.0 there.0 there.1 scope there.2) in
    told.2.below

pub returns-then-quantified-clause-tells : goal.returns-then-quantified-clause-tells
returns-then-quantified-clause-tells c = λ defs e s p.
    let a = c.args in
    let scope = subst (λ (f : Force). IsScopeIn a.store.now f defs) (sym c.scope.ensures) s in
    let told = subst (λ (r : Result ℕ ElabFault). Answers c.elaborate.new.store (elaborate defs e) r) c.in_ok-id.was (c.elaborate.ensures.answers defs e p.0 scope p.1) in
    let item = read-item a.expr.now.items.items a.at c.requires.at.0 c.index.result.now c.requires.at.1 c.index.ensures in
    let place = place-is a.expr.now.items.items a.expr.now.text.items a.at e p.0 c.index.result.now p.1 item in
    value-quantified c.elaborate.new.store defs e c.in_ok-id.id c.index.result.now.place c.fault_at.result told (sym c.quantified.ensures.quantified ∙ c.if-quantified.true) place c.fault_at.ensures

pub returns-clause-tells : goal.returns-clause-tells
returns-clause-tells c = λ defs e s p.
    let a = c.args in
    let scope = subst (λ (f : Force). IsScopeIn a.store.now f defs) (sym c.scope.ensures) s in
    let told = subst (λ (r : Result ℕ ElabFault). Answers c.elaborate.new.store (elaborate defs e) r) c.in_ok-id.was (c.elaborate.ensures.answers defs e p.0 scope p.1) in
    value-told c.elaborate.new.store defs e c.in_ok-id.id (record { text = c.in_ok-text.text; id = c.in_ok-id.id }) told (sym c.quantified.ensures.quantified ∙ c.if-quantified.false) refl (c.in_ok-text.ensures e p)
