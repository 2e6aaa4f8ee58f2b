-- Learnt clauses that may be deleted.
use Rattle.std.specs.Prelude.{◌≡◌, ◌≢◌, ◌⊎◌, ℕ, nat_lt, false, if◌then◌else◌, List, [], ◌∷◌, Some, All, IsSome}
use Rattle.qv_cnf.specs.Derivation.{has_id}
use Rattle.qv_cnf.specs.Listing.{Numbered, Rises, clause_named}
use Rattle.qv_watch.specs.TrailState.{TrailState}

-- the clause of that id is attached, isn't of the base, and is no reason
pub record IsIdle (base : List Numbered) (t : TrailState) (id : ℕ) : Type 0 where
  pub attached : IsSome (clause_named id t.clauses)
  pub learnt : has_id base id ≡ false
  pub no_reason : All (λ e. e.reason ≢ Some id) t.entries

-- each is, and the ids rise
pub record AreIdle (base : List Numbered) (t : TrailState) (ids : List ℕ) : Type 0 where
  pub each : All (IsIdle base t) ids
  pub rises : Rises 0 ids

-- of these ids, those that are greater than this one and all before them
abbrev pub rising : ℕ → List ℕ → List ℕ
rising last [] = []
rising last (id ∷ ids) = if nat_lt last id then id ∷ rising id ids else rising last ids

-- the second list has those of the first of which it holds, in their order, and no others
abbrev pub Picks : (ℕ → Type 0) → List ℕ → List ℕ → Type 0
Picks P [] picked = picked ≡ []
Picks P (id ∷ ids) picked = (P id × (rest : List ℕ) × (picked ≡ id ∷ rest) × Picks P ids rest) ⊎ ((P id → ⊥) × Picks P ids picked)

-- of the chosen ids, as far as they rise, exactly those that are idle
abbrev pub ListsIdle : List Numbered → TrailState → List ℕ → List ℕ → Type 0
ListsIdle base t chosen ids = Picks (IsIdle base t) (rising 0 chosen) ids
