-- Refutations of which some lines are needed, by hand.
use Rattle.std.proofs.Common.{◌≡◌, refl, ℕ, zero, suc, ℤ, false, List, [], ◌∷◌, map, subst, arith}
use Rattle.std.specs.Prelude.{pos, unsigned_abs, Contains}
use Rattle.qv_cnf.specs.Literal.{Literal}
use Rattle.qv_cnf.specs.LratLine.{LratLine, Addition, Deletion}
use Rattle.qv_trim.specs.Needed.{up_to_empty, IsNeeded, empty, named, nothing, keeps, drops, deletes, IsTrimmed}

abbrev pub not_one : Literal
not_one = record { variable = 1; positive = false }

-- ---- `3 -1 0 2 0`, `4 0 1 2 0`, `5 0 1 2 0`

abbrev pub third : LratLine
third = Addition 3 (not_one ∷ []) (pos 2 ∷ [])

abbrev pub fourth : LratLine
fourth = Addition 4 [] (pos 1 ∷ pos 2 ∷ [])

abbrev pub fifth : LratLine
fifth = Addition 5 [] (pos 1 ∷ pos 2 ∷ [])

-- what stands behind the first clause without literals is no line of the refutation
first-two : up_to_empty (third ∷ fourth ∷ fifth ∷ []) ≡ third ∷ fourth ∷ []
first-two = refl

-- no line of these names 3
two-alone : Contains {X = ℕ} (2 ∷ []) 3 → ⊥
two-alone (zero, below, is) = absurd (let no : ◌≡◌ {A = ℕ} 2 3 = is in omega (arith, no))
two-alone (suc k, below, is) = omega (arith, below)

one-and_two : Contains {X = ℕ} (1 ∷ 2 ∷ []) 3 → ⊥
one-and_two (zero, below, is) = absurd (let no : ◌≡◌ {A = ℕ} 1 3 = is in omega (arith, no))
one-and_two (suc zero, below, is) = absurd (let no : ◌≡◌ {A = ℕ} 2 3 = is in omega (arith, no))
one-and_two (suc (suc k), below, is) = omega (arith, below)

names-three : (lits : List Literal) (id : ℕ) (hints : List ℤ) → Contains (third ∷ fourth ∷ []) (Addition id lits hints) → Contains (map unsigned_abs hints) 3 → ⊥
names-three lits id hints (zero, below, at) h = let few : hints ≡ pos 2 ∷ [] = cc in two-alone (subst (λ (hs : List ℤ). Contains (map unsigned_abs hs) 3) few h)
names-three lits id hints (suc zero, below, at) h = let few : hints ≡ pos 1 ∷ pos 2 ∷ [] = cc in one-and_two (subst (λ (hs : List ℤ). Contains (map unsigned_abs hs) 3) few h)
names-three lits id hints (suc (suc k), below, at) h = absurd (omega (arith, below))

third-spared : IsNeeded (third ∷ fourth ∷ []) 3 → ⊥
third-spared (empty id hints (zero, below, at)) = absurd cc
third-spared (empty id hints (suc zero, below, at)) = absurd cc
third-spared (empty id hints (suc (suc k), below, at)) = absurd (omega (arith, below))
third-spared (named id hinted lits hints needed there names) = names-three lits id hints there names

-- one line is kept
pub one-is-kept : IsTrimmed (third ∷ fourth ∷ fifth ∷ []) (fourth ∷ [])
one-is-kept =
    drops 3 (not_one ∷ []) (pos 2 ∷ []) (fourth ∷ []) (fourth ∷ []) third-spared
    (keeps 4 [] (pos 1 ∷ pos 2 ∷ []) [] [] (empty 4 (pos 1 ∷ pos 2 ∷ []) (1, omega arith, refl)) nothing)

-- ---- `3 -1 0 2 5 0`, `4 d 1 0`, `5 -1 0 2 0`, `6 0 3 0`: the needed line 3 names line 5, which comes behind it, in a hint
-- that no checker has to look at; line 5 is kept, and so is the deletion

abbrev looking : LratLine
looking = Addition 3 (not_one ∷ []) (pos 2 ∷ pos 5 ∷ [])

abbrev deleting : LratLine
deleting = Deletion 4 (1 ∷ [])

abbrev named_only : LratLine
named_only = Addition 5 (not_one ∷ []) (pos 2 ∷ [])

abbrev ending : LratLine
ending = Addition 6 [] (pos 3 ∷ [])

abbrev pub four : List LratLine
four = looking ∷ deleting ∷ named_only ∷ ending ∷ []

sixth-needed : IsNeeded four 6
sixth-needed = empty 6 (pos 3 ∷ []) (3, omega arith, refl)

third-needed : IsNeeded four 3
third-needed = named 6 3 [] (pos 3 ∷ []) sixth-needed (3, omega arith, refl) (0, omega arith, refl)

fifth-needed : IsNeeded four 5
fifth-needed = named 3 5 (not_one ∷ []) (pos 2 ∷ pos 5 ∷ []) third-needed (0, omega arith, refl) (1, omega arith, refl)

pub all-are-kept : IsTrimmed four four
all-are-kept =
    keeps 3 (not_one ∷ []) (pos 2 ∷ pos 5 ∷ []) (deleting ∷ named_only ∷ ending ∷ []) (deleting ∷ named_only ∷ ending ∷ []) third-needed
    (deletes 4 (1 ∷ []) (named_only ∷ ending ∷ []) (named_only ∷ ending ∷ [])
    (keeps 5 (not_one ∷ []) (pos 2 ∷ []) (ending ∷ []) (ending ∷ []) fifth-needed
    (keeps 6 [] (pos 3 ∷ []) [] [] sixth-needed nothing)))
