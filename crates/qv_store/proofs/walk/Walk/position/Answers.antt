use Rattle.std.proofs.Common.{◌≡◌, ◌≤◌, Contains, List, ℕ, Some, slice_get, subst, sym}
use Rattle.qv_store.proofs.Visiting.{position-at, position-first}
use Rattle.qv_store.proofs.walk.Walk.position.Goals as goal

pub returns-clause-at : goal.returns-clause-at
returns-clause-at c =
    let P : List ℕ → Type 0 = λ xs. slice_get xs c.unwrap_or.result ≡ Some c.args.id in
    let there = subst (λ xs. Contains xs c.args.id) (sym c.self.view_is) c.requires in
    subst P c.self.view_is (position-at c.args.id c.self.inside.met.keys c.get_index_of.result c.unwrap_or.result c.get_index_of.ensures.index c.get_index_of.ensures.found there c.unwrap_or.ensures)

pub returns-clause-first : goal.returns-clause-first
returns-clause-first c =
    let P : List ℕ → Type 0 = λ xs. (place : ℕ) → slice_get xs place ≡ Some c.args.id → c.unwrap_or.result ≤ place in
    let there = subst (λ xs. Contains xs c.args.id) (sym c.self.view_is) c.requires in
    subst P c.self.view_is (position-first c.args.id c.self.inside.met.keys c.get_index_of.result c.unwrap_or.result c.get_index_of.ensures.index c.get_index_of.ensures.found there c.unwrap_or.ensures)
