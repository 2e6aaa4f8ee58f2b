-- The clause that a search gathers.
use Rattle.std.specs.List.{list_any}
use Rattle.std.specs.Prelude.{◌≡◌, ◌≢◌, ℕ, ◌==◌, ◌<◌, ◌≤◌, ◌⊎◌, true, false, List, [], ◌∷◌, ◌++◌, map, Some, All, AllPairs, Contains}
use Rattle.qv_cnf.specs.Literal.{Literal, negated}
use Rattle.qv_cnf.specs.Refutation.{among}
use Rattle.qv_learn.specs.Frontiers.{HasPoint, IsBetween}
use Rattle.qv_learn.specs.Learning.{greatest_level, level_at, level_in, Asserts, MayBeLeftOut, MayStand, StandsIn}
use Rattle.qv_learn.specs.Marking.{marked}
use Rattle.qv_learn.specs.Searching.{IsExtreme, IsImplied, Searched}
use Rattle.qv_learn.specs.declared.search.Task.{Task}
use Rattle.qv_learn.specs.declared.search.Task.TheVariants.{Visit, Leave}
use Rattle.qv_watch.specs.Entries.{entry_at, reason_of, value_of}
use Rattle.qv_watch.specs.TrailState.{TrailState}

-- the literal stands in the clause of a hint
abbrev pub IsHinted : TrailState → List ℕ → Literal → Type 0
IsHinted t hints l = (id : ℕ) × Contains hints id × StandsIn t.clauses id l

-- the clause that was gathered: it is false, asserts, has the literals that may stand in it, each
-- of a hinted clause, and the points' negations come first
pub record Gathered (t : TrailState) (conflict : ℕ) (points lits : List Literal) (hints : List ℕ) (level : ℕ) : Type 0 where
  pub falsified : All (λ l. value_of t.entries l ≡ Some false) lits
  pub apart : AllPairs (λ l m. l.variable ≢ m.variable) lits
  pub above_zero : All (λ l. 1 ≤ level_at t.entries l) lits
  pub at_zero : t.level ≡ 0 → (lits ≡ []) × (level ≡ 0)
  pub asserts : 1 ≤ t.level → Asserts t lits level
  pub others : All (λ l. level_at t.entries l < t.level → MayStand t conflict hints l) lits
  pub minimal : All (λ l. level_at t.entries l < t.level → MayBeLeftOut t conflict hints l → ⊥) lits
  pub left_out : (l : Literal) → MayStand t conflict hints l → (among lits l ≡ true) ⊎ MayBeLeftOut t conflict hints l
  pub hinted : All (IsHinted t hints) lits
  pub points_first : (more : List Literal) × (lits ≡ map negated points ++ more)

-- the id is a hint, or the reason of a literal that is still to be left
abbrev pub IsTaken : TrailState → Searched → ℕ → Type 0
IsTaken t s id = Contains s.hints id ⊎ ((x : Literal) × Contains s.tasks (Leave x) × (reason_of t.entries x ≡ Some id))

-- the literal's variable was met, or its negation is to be visited
abbrev pub IsMet : Searched → Literal → Type 0
IsMet s l = (marked s.marks l.variable ≡ true) ⊎ Contains s.tasks (Visit (negated l))

-- a literal that was kept: its variable was noted, and no reason says that it may be left out
pub record IsKept (t : TrailState) (set : List ℕ) (l : Literal) : Type 0 where
  pub is_false : value_of t.entries l ≡ Some false
  pub between : IsBetween t l
  pub noted : marked set l.variable ≡ true
  pub stays : (id : ℕ) → reason_of t.entries (negated l) ≡ Some id → IsImplied t set (negated l) id → ⊥

-- a literal that is to be visited: one of the present level is of the set, and one of a level
-- between was noted
pub record IsToVisit (t : TrailState) (set between : List ℕ) (l : Literal) : Type 0 where
  pub is_true : value_of t.entries l ≡ Some true
  pub present : 1 ≤ t.level → level_at t.entries l ≡ t.level → Contains set l.variable
  pub noted : IsBetween t l → marked between l.variable ≡ true

-- a literal that was resolved with the clause of this id: it is no point, it was met, and the others
-- of the clause were, or are to be visited
pub record IsResolved (t : TrailState) (points : List Literal) (between : List ℕ) (s : Searched) (l : Literal) (id : ℕ) : Type 0 where
  pub is_true : value_of t.entries l ≡ Some true
  pub met : IsMet s l
  pub reason : reason_of t.entries l ≡ Some id
  pub apart : (u : Literal) → points ≡ u ∷ [] → l.variable ≢ u.variable
  pub may : IsExtreme t l ⊎ IsImplied t between l id
  pub others : (m : Literal) → StandsIn t.clauses id m → m.variable ≢ l.variable → IsMet s m

abbrev pub IsTask : TrailState → List Literal → List ℕ → List ℕ → Searched → Task → Type 0
IsTask t points set between s (Visit l) = IsToVisit t set between l
IsTask t points set between s (Leave l) = (id : ℕ) × IsResolved t points between s l id

-- a literal that was met and resolved
pub record IsDone (t : TrailState) (points : List Literal) (between : List ℕ) (s : Searched) (l : Literal) : Type 0 where
  pub reason : ℕ
  pub taken : IsTaken t s reason
  pub resolved : IsResolved t points between s l reason

-- where a search stands, as far as the clause goes: behind the points' negations it has the
-- literals that were kept; each literal of a level between that was met is among them, or may be
-- left out; each of the present level is of the set, and but for the points was resolved
pub record IsGathering (t : TrailState) (conflict : ℕ) (points : List Literal) (between : List ℕ) (s : Searched) : Type 0 where
  pub set : List ℕ
  pub none : t.level ≡ 0 → points ≡ []
  pub some : 1 ≤ t.level → HasPoint t conflict points set between
  pub kept : List Literal
  pub lits : s.lits ≡ map negated points ++ kept
  pub each : All (IsKept t between) kept
  pub level : s.level ≡ greatest_level t.entries kept
  pub apart : AllPairs (λ l m. l.variable ≢ m.variable) s.lits
  pub met : All (λ l. marked s.marks l.variable ≡ true) s.lits
  pub found : 1 ≤ t.level → (v : ℕ) → marked s.marks v ≡ true → level_in (entry_at v t.entries) ≡ t.level → Contains set v
  pub tasks : All (IsTask t points set between s) s.tasks
  pub hints : All (λ id. (l : Literal) × IsResolved t points between s l id) s.hints
  pub of_conflict : (l : Literal) → StandsIn t.clauses conflict l → IsMet s l
  pub whole : (l : Literal) → marked s.marks l.variable ≡ true → value_of t.entries l ≡ Some false → IsBetween t l → (among s.lits l ≡ true) ⊎ ((id : ℕ) × (reason_of t.entries (negated l) ≡ Some id) × IsImplied t between (negated l) id)
  pub done : (l : Literal) → value_of t.entries l ≡ Some true → marked s.marks l.variable ≡ true → level_at t.entries l ≡ t.level → list_any (λ u. u.variable == l.variable) points ≡ false → IsDone t points between s l
