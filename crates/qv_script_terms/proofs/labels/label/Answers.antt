use Rattle.std.proofs.Common.{◌≡◌, ℕ, true, false, List, Bor, Err, refl, sym, ap, subst, ◌∙◌}
use Rattle.std.specs.Prelude.{Result, option_map}
use Rattle.std.proofs.lemmas.Result.{err_from_is_err_and}
use Rattle.qv_elab_scope.specs.Force.{Force}
use Rattle.qv_elab_scope.specs.Kept.{IsScopeIn}
use Rattle.qv_elab_defs.specs.declared.faults.ElabFault.{ElabFault}
use Rattle.qv_elab_defs.specs.Answers.{Answers}
use Rattle.qv_elab_defs.specs.Defining.{elaborate}
use Rattle.qv_elab.proofs.OwnReadings.{written}
use Rattle.qv_script_defs.specs.declared.faults.ScriptFault.{ScriptFault}
use Rattle.qv_script_defs.specs.State.{scope_of, is_taken}
use Rattle.qv_script_defs.specs.Labels.{label}
use Rattle.qv_script_stack.specs.Changes.{IsLabelled}
use Rattle.qv_script_stack.proofs.Holding.{taken-held}
use Rattle.qv_script_stack.proofs.Asserting.{script-grows}
use Rattle.qv_script_terms.specs.Labelling.{GivesState}
use Rattle.qv_script_terms.proofs.Asked.{part-begins}
use Rattle.qv_script_terms.proofs.Labelled.{label-told, label-taken, label-faulty, label-done}
use Rattle.qv_script_terms.proofs.labels.label.Goals as goal

pub asserted_at-requires-clause-at : goal.asserted_at-requires-clause-at
asserted_at-requires-clause-at c = let r = c.requires.label in part-begins c.args.expr.now c.args.at r.1.0 r.1.1

pub returns-then-is_taken-clause-label : goal.returns-then-is_taken-clause-label
returns-then-is_taken-clause-label c = λ s l h is.
    let a = c.args in
    let told = label-told a.expr.now a.at l (option_map (λ (x : ℕ × Bor (List ℕ)). (x.0, x.1.now)) c.asserted_at.result) is c.asserted_at.ensures (c.in-Some.term, c.in-Some.name.now) (ap (option_map (λ (x : ℕ × Bor (List ℕ)). (x.0, x.1.now))) c.in-Some.is) in
    let taken : is_taken s l.name ≡ true = ap (λ n. is_taken s n) (sym told.0) ∙ sym (taken-held a.store.now _ s c.in-Some.name.now h) ∙ sym c.is_taken.ensures ∙ c.if-is_taken.true in
    subst (λ (r : ScriptFault). GivesState a.store.now a.stack.now (label a.place s l) (Err r)) (sym c.fault_at.ensures) (label-taken a.place s l taken)

pub elaborate-requires-clause-at : goal.elaborate-requires-clause-at
elaborate-requires-clause-at c =
    let a = c.args in
    let r = c.requires.label in
    let told = label-told a.expr.now a.at r.0 (option_map (λ (x : ℕ × Bor (List ℕ)). (x.0, x.1.now)) c.asserted_at.result) r.1 c.asserted_at.ensures (c.in-Some.term, c.in-Some.name.now) (ap (option_map (λ (x : ℕ × Bor (List ℕ)). (x.0, x.1.now))) c.in-Some.is) in
    part-begins a.expr.now c.in-Some.term r.0.term told.1

pub elaborate-requires-clause-scope : goal.elaborate-requires-clause-scope
elaborate-requires-clause-scope c =
    let s = c.requires.held in
    (scope_of s.0, subst (λ (f : Force). IsScopeIn c.args.store.now f (scope_of s.0)) (sym c.scope.ensures) s.1.scope)

pub returns-in_err-id-clause-label : goal.returns-in_err-id-clause-label
returns-in_err-id-clause-label c = λ s l h is.
    let a = c.args in
    let told = label-told a.expr.now a.at l (option_map (λ (x : ℕ × Bor (List ℕ)). (x.0, x.1.now)) c.asserted_at.result) is c.asserted_at.ensures (c.in-Some.term, c.in-Some.name.now) (ap (option_map (λ (x : ℕ × Bor (List ℕ)). (x.0, x.1.now))) c.in-Some.is) in
    let free : is_taken s l.name ≡ false = ap (λ n. is_taken s n) (sym told.0) ∙ sym (taken-held a.store.now _ s c.in-Some.name.now h) ∙ sym c.is_taken.ensures ∙ c.if-is_taken.false in
    let scope = subst (λ (f : Force). IsScopeIn a.store.now f (scope_of s)) (sym c.scope.ensures) h.scope in
    let answers = subst (λ (r : Result ℕ ElabFault). Answers c.elaborate.new.store (elaborate (scope_of s) l.term) r) c.in_err-id.was (c.elaborate.ensures.answers (scope_of s) l.term told.1.0 scope told.1.1) in
    let left = err_from_is_err_and c.from_residual.result c.from_residual.ensures.1 in
    subst (λ (r : Result (Unit {0}) ScriptFault). GivesState c.elaborate.new.store a.stack.now (label a.place s l) r) (sym (left.1 ∙ ap Err left.2))
    (label-faulty a.place s l c.elaborate.new.store a.stack.now c.in_err-id.field-0.0 _ free answers refl)

pub returns-clause-label : goal.returns-clause-label
returns-clause-label c = λ s l h is.
    let a = c.args in
    let told = label-told a.expr.now a.at l (option_map (λ (x : ℕ × Bor (List ℕ)). (x.0, x.1.now)) c.asserted_at.result) is c.asserted_at.ensures (c.in-Some.term, c.in-Some.name.now) (ap (option_map (λ (x : ℕ × Bor (List ℕ)). (x.0, x.1.now))) c.in-Some.is) in
    let free : is_taken s l.name ≡ false = ap (λ n. is_taken s n) (sym told.0) ∙ sym (taken-held a.store.now _ s c.in-Some.name.now h) ∙ sym c.is_taken.ensures ∙ c.if-is_taken.false in
    let scope = subst (λ (f : Force). IsScopeIn a.store.now f (scope_of s)) (sym c.scope.ensures) h.scope in
    let answers = subst (λ (r : Result ℕ ElabFault). Answers c.elaborate.new.store (elaborate (scope_of s) l.term) r) c.in_ok-id.was (c.elaborate.ensures.answers (scope_of s) l.term told.1.0 scope told.1.1) in
    let grown = script-grows a.store.now c.elaborate.new.store c.elaborate.ensures.grows a.stack.now s h in
    let tokens = written a.expr.now.items.items a.expr.now.text.items c.in-Some.term l.term told.1.0 told.1.1 in
    label-done a.place s l c.elaborate.new.store a.stack.now c.add_label.new.self c.in_ok-id.id tokens free (subst (λ n. IsLabelled c.in_ok-id.id n a.stack.now c.add_label.new.self) told.0 c.in_ok-add_label.ensures.ok) answers grown

pub returns-clause-ok : goal.returns-clause-ok
returns-clause-ok c =
    let n = c.in_ok-add_label.ensures.ok in
    (c.in-Some.name.now, n.sorts, n.body, n.held)
