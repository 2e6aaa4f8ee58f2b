-- Derivations: the steps that a budget of conflicts charges for.
use Rattle.std.specs.Prelude.{◌≡◌, ◌≢◌, ℕ, ◌+◌, ◌≤◌, ◌==◌, nat_lt, ℤ, pos, Bool, true, false, List, [], ◌∷◌, ◌++◌, map, filter}
use Rattle.std.specs.List.{list_any, list_all}
use Rattle.qv_cnf.specs.Literal.{Literal, negated}
use Rattle.qv_cnf.specs.Listing.{Numbered, without}
use Rattle.qv_cnf.specs.LratLine.{LratLine, Addition, Deletion}
use Rattle.qv_cnf.specs.Refutation.{accepts, among, judged_clause, IsRup}

-- where a derivation stands: its additions that are live, and the least id that may come
pub record Deriving : Type 0 where
  pub added : List Numbered
  pub next : ℕ

-- at the start
abbrev pub no_steps : Deriving
no_steps = record { added = []; next = 0 }

-- the clauses that are live where the id is added: those of the base with a smaller id, and the
-- live additions
abbrev pub live_at : List Numbered → Deriving → ℕ → List Numbered
live_at base d id = filter (λ c. nat_lt c.id id) base ++ d.added

-- whether some clause has this id
abbrev pub has_id : List Numbered → ℕ → Bool
has_id clauses id = list_any (λ c. c.id == id) clauses

-- whether each literal of the first clause is in the second
abbrev pub is_within : List Literal → List Literal → Bool
is_within small large = list_all (among large) small

-- the lists that have one element fewer, each in its order
abbrev pub one_fewer : {X : Type 0} → List X → List (List X)
one_fewer [] = []
one_fewer (x ∷ xs) = xs ∷ map (λ fewer. x ∷ fewer) (one_fewer xs)

-- whether the clause would follow by the hints, in their order, without one of its literals
abbrev pub spares_literal : List Numbered → List Literal → List ℤ → Bool
spares_literal live lits hints = list_any (λ fewer. accepts (judged_clause live fewer hints)) (one_fewer lits)

-- whether the clause would follow by the hints, in their order, without one of them
abbrev pub spares_hint : List Numbered → List Literal → List ℤ → Bool
spares_hint live lits hints = list_any (λ fewer. accepts (judged_clause live lits fewer)) (one_fewer hints)

-- an addition that may come: its id is greater than those of the additions before and none of the
-- base's, it follows by its hints, each of its literals and each of its hints is needed for that,
-- no two of its literals are opposite, and no live clause is contained in it
pub record MayAdd (base : List Numbered) (d : Deriving) (id : ℕ) (lits : List Literal) (hints : List ℤ) : Type 0 where
  pub rises : d.next ≤ id
  pub fresh : has_id base id ≡ false
  pub follows : IsRup (live_at base d id) lits hints
  pub literals_needed : spares_literal (live_at base d id) lits hints ≡ false
  pub hints_needed : spares_hint (live_at base d id) lits hints ≡ false
  pub not_opposite : list_any (λ l. among lits (negated l)) lits ≡ false
  pub not_contained : list_any (λ c. is_within c.lits lits) (live_at base d id) ≡ false

-- a deletion that may come: it names only live additions, and at least one
pub record MayDelete (d : Deriving) (ids : List ℕ) : Type 0 where
  pub live : list_all (has_id d.added) ids ≡ true
  pub some : ids ≢ []

abbrev pub MayStep : List Numbered → Deriving → LratLine → Type 0
MayStep base d (Addition id lits hints) = MayAdd base d id lits hints
MayStep base d (Deletion id ids) = MayDelete d ids

-- where it stands after a step
abbrev pub after_step : Deriving → LratLine → Deriving
after_step d (Addition id lits hints) = record { added = d.added ++ record { id = id; lits = lits } ∷ []; next = id + 1 }
after_step d (Deletion id ids) = record { added = without ids d.added; next = d.next }

-- each step may come
abbrev pub DerivesFrom : List Numbered → List LratLine → Deriving → Type 0
DerivesFrom base [] d = Unit {0}
DerivesFrom base (step ∷ steps) d = MayStep base d step × DerivesFrom base steps (after_step d step)

-- the steps are a derivation over the base
abbrev pub IsDerivation : List Numbered → List LratLine → Type 0
IsDerivation base steps = DerivesFrom base steps no_steps

-- the addition of a clause whose hints are ids
abbrev pub addition_of : ℕ → List Literal → List ℕ → LratLine
addition_of id lits hints = Addition id lits (map pos hints)

-- how many of the steps add a clause
abbrev pub additions : List LratLine → ℕ
additions [] = 0
additions (Addition id lits hints ∷ steps) = additions steps + 1
additions (Deletion id ids ∷ steps) = additions steps
