use Rattle.std.proofs.Common.{◌≡◌, [], ◌∷◌, ◌++◌, reverse, ap, subst, sym, ◌∙◌, refl, arith}
use Rattle.qv_store.specs.declared.walk.Visit.TheVariants.{Enter}
use Rattle.qv_store.specs.Stores.{AreShared}
use Rattle.qv_store.specs.Walks.{named}
use Rattle.qv_store.specs.Visits.{IsVisiting, seen_after}
use Rattle.qv_store.proofs.Visiting.{visiting-first, end-none, end-one, behind-itself, popped-none}
use Rattle.qv_store.proofs.Passes.{walk-has, earlier-contains}
use Rattle.qv_store.proofs.walk.visit_all.Goals as goal

pub todo-init : goal.todo-init
todo-init c =
    let trees = c.args.store.now in
    let met = c.args.met.now.keys in
    let items : c.push.new.self.items ≡ Enter c.args.id ∷ [] = c.in_ok-push.ensures.items ∙ ap (λ vs. vs ++ Enter c.args.id ∷ []) c.new-todo.ensures.items in
    let first : reverse c.push.new.self.items ≡ Enter c.args.id ∷ [] = ap reverse items in
    let shared = subst AreShared c.store.view_is c.store.invariant.shared in
    record {
      visiting = subst (λ vs. IsVisiting trees met vs) (sym first) (visiting-first trees met c.args.id shared c.requires.walk c.requires.id);
      end = ap (seen_after trees (named trees met)) first ∙ end-one trees (named trees met) c.args.id;
      behind = behind-itself met met refl;
    }

pub returns-clause-has : goal.returns-clause-has
returns-clause-has c =
    let trees = c.args.store.now in
    let none : c.todo.todo.items ≡ [] = popped-none c.todo.todo.items c.pop.result (λ h. c.pop.ensures.variant.1 (omega (arith, h, c.todo.todo.ok.0))) c.in_default.not-Some in
    let order = sym (end-none trees (named trees c.todo.met.keys)) ∙ sym (ap (λ vs. seen_after trees (named trees c.todo.met.keys) (reverse vs)) none) ∙ c.todo.invariant.end in
    earlier-contains c.todo.met.keys c.args.id
    (walk-has trees c.todo.met.keys (subst AreShared c.store.view_is c.store.invariant.shared) c.todo.invariant.visiting.walk (named trees c.args.met.now.keys) c.args.id c.requires.id order)

pub returns-clause-order : goal.returns-clause-order
returns-clause-order c =
    let trees = c.args.store.now in
    let none : c.todo.todo.items ≡ [] = popped-none c.todo.todo.items c.pop.result (λ h. c.pop.ensures.variant.1 (omega (arith, h, c.todo.todo.ok.0))) c.in_default.not-Some in
    sym (end-none trees (named trees c.todo.met.keys)) ∙ sym (ap (λ vs. seen_after trees (named trees c.todo.met.keys) (reverse vs)) none) ∙ c.todo.invariant.end
