use Rattle.std.proofs.Common.{◌≡◌, ◌∷◌, ◌++◌, [], true, false, cond, List, ℕ, map, reverse, ap, subst, sym, ◌∙◌}
use Rattle.std.specs.Prelude.{nat_eq}
use Rattle.std.specs.List.{list_any}
use Rattle.qv_store.specs.declared.walk.Visit.{Visit}
use Rattle.qv_store.specs.declared.walk.Visit.TheVariants.{Enter, Leave}
use Rattle.qv_store.specs.Visits.{IsVisiting, IsStep}
use Rattle.qv_store.proofs.Visiting.{enter-within, step-over, step-into, step-out}
use Rattle.qv_store.proofs.walk.visit_next.Goals as goal

pub node-requires : goal.node-requires
node-requires c =
    enter-within c.args.store.now c.args.met.now.keys c.in-Enter.id (reverse c.args.todo.now.items)
    (subst (λ (v : Visit). IsVisiting c.args.store.now c.args.met.now.keys (v ∷ reverse c.args.todo.now.items)) c.in-Enter.is c.requires)

pub returns-in_ok-enter-in-Enter-clause-step : goal.returns-in_ok-enter-in-Enter-clause-step
returns-in_ok-enter-in-Enter-clause-step c =
    let absent : list_any (nat_eq c.in-Enter.id) c.args.met.now.keys ≡ false = sym c.contains.ensures ∙ c.if-not-contains.true in
    let waiting = c.in_ok-enter-in-Enter.ensures ∙ ap (λ (ks : List ℕ). map Enter ks ++ Leave c.in-Enter.id ∷ reverse c.args.todo.now.items) c.children.ensures in
    subst (λ (v : Visit). IsStep c.args.store.now c.args.met.now.keys (v ∷ reverse c.args.todo.now.items) c.args.met.now.keys (reverse c.enter.new.todo.items)) (sym c.in-Enter.is)
    (step-into c.args.store.now c.args.met.now.keys c.in-Enter.id (reverse c.args.todo.now.items) (reverse c.enter.new.todo.items) c.node.result.now
    (subst (λ (v : Visit). IsVisiting c.args.store.now c.args.met.now.keys (v ∷ reverse c.args.todo.now.items)) c.in-Enter.is c.requires)
    absent c.node.ensures.tree c.node.ensures.children waiting)

pub returns-else-not-contains-clause-step : goal.returns-else-not-contains-clause-step
returns-else-not-contains-clause-step c =
    let there : list_any (nat_eq c.in-Enter.id) c.args.met.now.keys ≡ true = sym c.contains.ensures ∙ c.if-not-contains.false in
    subst (λ (v : Visit). IsStep c.args.store.now c.args.met.now.keys (v ∷ reverse c.args.todo.now.items) c.args.met.now.keys (reverse c.args.todo.now.items)) (sym c.in-Enter.is)
    (step-over c.args.store.now c.args.met.now.keys c.in-Enter.id (reverse c.args.todo.now.items)
    (subst (λ (v : Visit). IsVisiting c.args.store.now c.args.met.now.keys (v ∷ reverse c.args.todo.now.items)) c.in-Enter.is c.requires) there)

pub returns-in_ok-insert-in-Leave-clause-step : goal.returns-in_ok-insert-in-Leave-clause-step
returns-in_ok-insert-in-Leave-clause-step c =
    let keys : c.insert.new.self.keys ≡ cond (list_any (nat_eq c.in-Leave.id) c.args.met.now.keys) c.args.met.now.keys (c.args.met.now.keys ++ c.in-Leave.id ∷ []) = c.in_ok-insert-in-Leave.ensures.keys in
    subst (λ (v : Visit). IsStep c.args.store.now c.args.met.now.keys (v ∷ reverse c.args.todo.now.items) c.insert.new.self.keys (reverse c.args.todo.now.items)) (sym c.in-Leave.is)
    (step-out c.args.store.now c.args.met.now.keys c.insert.new.self.keys c.in-Leave.id (reverse c.args.todo.now.items)
    (subst (λ (v : Visit). IsVisiting c.args.store.now c.args.met.now.keys (v ∷ reverse c.args.todo.now.items)) c.in-Leave.is c.requires) keys)

pub returns-in_ok-insert-in-Leave-clause-walk : goal.returns-in_ok-insert-in-Leave-clause-walk
returns-in_ok-insert-in-Leave-clause-walk c =
    let keys : c.insert.new.self.keys ≡ cond (list_any (nat_eq c.in-Leave.id) c.args.met.now.keys) c.args.met.now.keys (c.args.met.now.keys ++ c.in-Leave.id ∷ []) = c.in_ok-insert-in-Leave.ensures.keys in
    (step-out c.args.store.now c.args.met.now.keys c.insert.new.self.keys c.in-Leave.id (reverse c.args.todo.now.items)
    (subst (λ (v : Visit). IsVisiting c.args.store.now c.args.met.now.keys (v ∷ reverse c.args.todo.now.items)) c.in-Leave.is c.requires) keys).visiting.walk
