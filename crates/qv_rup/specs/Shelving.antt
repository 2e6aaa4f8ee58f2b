-- How a checker keeps its clauses.
use Rattle.std.specs.Prelude.{◌≡◌, ℕ, ◌+◌, ◌≤◌, List, [], ◌∷◌, map, Option, Some, None, All, Contains}
use Rattle.qv_cnf.specs.Listing.{Listing, Numbered, clause_named, next_id, Rises}
use Rattle.qv_cnf.specs.Literal.{Literal}

-- the live clauses, and the least id that may be given
pub record Shelved : Type 0 where
  pub live : List Numbered
  pub next : ℕ

-- the least id behind the last one
abbrev pub next_after : Option ℕ → ℕ
next_after None = 0
next_after (Some id) = id + 1

-- the ids rise, each live clause has one of them, and all that the list was given are below the
-- next
pub record IsShelved (list : Listing) (ids : List ℕ) (next : ℕ) : Type 0 where
  pub rises : Rises 0 ids
  pub below : next_id ids ≤ next
  pub given_below : next_id list.given ≤ next
  pub whole : All (λ c. Contains ids c.id) list.live

-- one more clause, if there is one
abbrev pub picked_in : ℕ → Option (List Literal) → List Numbered → List Numbered
picked_in id None rest = rest
picked_in id (Some lits) rest = record { id = id; lits = lits } ∷ rest

-- the live clauses of these ids, in their order
abbrev pub picked : List ℕ → List Numbered → List Numbered
picked [] live = []
picked (id ∷ ids) live = picked_in id (clause_named id live) (picked ids live)

-- a list has these clauses, and was given their ids alone
pub record IsGathered (clauses : List Numbered) (list : Listing) (ids : List ℕ) : Type 0 where
  pub live : list.live ≡ clauses
  pub given : list.given ≡ map (λ c. c.id) clauses
  pub kept : ids ≡ map (λ c. c.id) clauses
