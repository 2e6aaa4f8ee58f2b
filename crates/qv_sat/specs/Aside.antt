-- Clauses of the base that are left aside.
use Rattle.std.specs.Prelude.{◌≡◌, ◌≢◌, ◌==◌, ℕ, Bool, true, false, List, [], All, Any, Option, Some, None, slice_index_or}
use Rattle.std.specs.List.{list_any}
use Rattle.qv_cnf.specs.Listing.{Numbered, Rises, clause_named}
use Rattle.qv_cnf.specs.Literal.{Literal}
use Rattle.qv_sat.specs.declared.aside.Aside.{Aside}

-- whether the id is one of these
abbrev pub is_listed : ℕ → List ℕ → Bool
is_listed id ids = list_any (λ other. id == other) ids

-- whether the literal's variable guards
abbrev pub is_guard : List Bool → Literal → Bool
is_guard guards l = slice_index_or guards l.variable false

-- there is a clause, and one of its variables guards
abbrev pub IsGuarded : List Bool → Option (List Literal) → Type 0
IsGuarded guards None = ⊥
IsGuarded guards (Some lits) = list_any (is_guard guards) lits ≡ true

-- the ids rise, and each is that of a clause of the base which has a guard
pub record AreAside (base : List Numbered) (aside : Aside) : Type 0 where
  pub rises : Rises 0 aside.ids.items
  pub guarded : All (λ id. IsGuarded aside.guards.items (clause_named id base)) aside.ids.items

-- each variable that did guard still does
abbrev pub KeepsGuards : List Bool → List Bool → Type 0
KeepsGuards old new = (l : Literal) → is_guard old l ≡ true → is_guard new l ≡ true

-- where clauses are left aside, no literal's variable guards
abbrev pub HasNoGuard : Aside → List Literal → Type 0
HasNoGuard aside lits = aside.ids.items ≢ [] → Any (λ l. is_guard aside.guards.items l ≡ true) lits → ⊥
