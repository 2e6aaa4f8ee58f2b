-- Clauses under ids.
use Rattle.std.specs.Prelude.{◌≡◌, ℕ, ◌+◌, ◌<◌, ◌≤◌, ◌==◌, ◌^◌, nat_lt, length, not, if◌then◌else◌, List, [], ◌∷◌, ◌++◌, map, filter, max, Option, Some, None, All}
use Rattle.std.specs.List.{list_any}
use Rattle.qv_cnf.specs.Literal.{Literal}

-- a clause with its id
pub record Numbered : Type 0 where
  pub id : ℕ
  pub lits : List Literal

-- what a clause list has: the clauses that are live, in the order of their ids, and every id that
-- was given
pub record Listing : Type 0 where
  pub live : List Numbered
  pub given : List ℕ

-- the clauses, ids aside
abbrev pub clauses_of : List Numbered → List (List Literal)
clauses_of live = map (λ c. c.lits) live

-- the clause of that id
abbrev pub clause_named : ℕ → List Numbered → Option (List Literal)
clause_named id [] = None
clause_named id (c ∷ cs) = if c.id == id then Some c.lits else clause_named id cs

-- the least number that is greater than every one of these ids
abbrev pub next_id : List ℕ → ℕ
next_id [] = 0
next_id (id ∷ ids) = max (id + 1) (next_id ids)

-- each id is at least the bound, and greater than those before
abbrev pub Rises : ℕ → List ℕ → Type 0
Rises low [] = Unit {0}
Rises low (id ∷ ids) = (low ≤ id) × Rises (id + 1) ids

-- what every clause list keeps: the ids of the live clauses rise, and are among those that were
-- given, of which there are fewer than 2 ^ 61
pub record IsListing (l : Listing) : Type 0 where
  pub rises : Rises 0 (map (λ c. c.id) l.live)
  pub below : All (λ c. c.id < next_id l.given) l.live
  pub few : length l.given < 2 ^ 61

-- one more clause
abbrev pub with_clause : Listing → ℕ → List Literal → Listing
with_clause l id lits = record { live = l.live ++ record { id = id; lits = lits } ∷ []; given = l.given ++ id ∷ [] }

-- the clauses but for those of these ids
abbrev pub without : List ℕ → List Numbered → List Numbered
without ids live = filter (λ c. not (list_any (λ id. c.id == id) ids)) live

-- as if no id from this one on had been given
abbrev pub cut_at : ℕ → Listing → Listing
cut_at id l = record { live = filter (λ c. nat_lt c.id id) l.live; given = filter (λ g. nat_lt g id) l.given }

-- the list has what the older one had, and behind it what was given since under ids from this one
-- on
pub record Extends (older l : Listing) (id : ℕ) : Type 0 where
  pub more : List Numbered
  pub ids : List ℕ
  pub live : l.live ≡ older.live ++ more
  pub given : l.given ≡ older.given ++ ids
  pub old_below : next_id older.given ≤ id
  pub more_above : All (λ c. id ≤ c.id) more
  pub ids_above : All (λ g. id ≤ g) ids
