-- What a core has, and what every core keeps.
use Rattle.std.specs.Prelude.{◌≡◌, ◌⊎◌, ℕ, ◌+◌, ℤ, pos, negsuc, Bool, true, false, List, [], ◌∷◌, ◌++◌}
use Rattle.std.specs.List.{list_all}
use Rattle.qv_cnf.specs.Derivation.{Deriving, IsDerivation, addition_of, after_step, has_id, live_at, no_steps}
use Rattle.qv_cnf.specs.Listing.{Numbered}
use Rattle.qv_cnf.specs.Literal.{Literal}
use Rattle.qv_cnf.specs.LratLine.{LratLine, Addition, Deletion}
use Rattle.qv_cnf.specs.Refutation.{IsRup}

-- the clauses that were added, the steps, and the greatest id so far, or 0
pub record CoreState : Type 0 where
  pub base : List Numbered
  pub steps : List LratLine
  pub top : ℕ

-- nothing was added
abbrev pub empty_core : CoreState
empty_core = record { base = []; steps = []; top = 0 }

-- where a derivation stands after more steps
abbrev pub after_steps : Deriving → List LratLine → Deriving
after_steps d [] = d
after_steps d (step ∷ steps) = after_steps (after_step d step) steps

-- how many of the steps take clauses away
abbrev pub deletions : List LratLine → ℕ
deletions [] = 0
deletions (Addition id lits hints ∷ steps) = deletions steps
deletions (Deletion id ids ∷ steps) = deletions steps + 1

-- the clauses that are live after the steps: those of the base, and the additions that no step has
-- deleted
abbrev pub live_after : List Numbered → List LratLine → List Numbered
live_after base steps = base ++ (after_steps no_steps steps).added

-- whether a hint is the id of a live clause
abbrev pub names_live : List Numbered → ℤ → Bool
names_live live (pos id) = has_id live id
names_live live (negsuc n) = false

abbrev pub HintsName : List Numbered → Deriving → LratLine → Type 0
HintsName base d (Addition id lits hints) = list_all (names_live (live_at base d id)) hints ≡ true
HintsName base d (Deletion id ids) = Unit {0}

-- each hint of an addition is the id of a clause that is live there
abbrev pub EachHinted : List Numbered → List LratLine → Deriving → Type 0
EachHinted base [] d = Unit {0}
EachHinted base (step ∷ steps) d = HintsName base d step × EachHinted base steps (after_step d step)

-- what every core keeps
pub record IsCore (c : CoreState) : Type 0 where
  pub derivation : IsDerivation c.base c.steps
  pub hinted : EachHinted c.base c.steps no_steps

-- each addition's id is one more than the greatest id before it, and a deletion's is that id; the
-- last is the greatest at the end
abbrev pub IsNumbered : ℕ → List LratLine → ℕ → Type 0
IsNumbered top [] last = last ≡ top
IsNumbered top (Addition id lits hints ∷ steps) last = (id ≡ top + 1) × IsNumbered id steps last
IsNumbered top (Deletion id ids ∷ steps) last = (id ≡ top) × IsNumbered top steps last

-- the core went on by steps alone
pub record GoesOn (old new : CoreState) : Type 0 where
  pub base : new.base ≡ old.base
  pub more : List LratLine
  pub steps : new.steps ≡ old.steps ++ more
  pub numbered : IsNumbered old.top more new.top

-- one more clause
abbrev pub with_base : CoreState → ℕ → List Literal → CoreState
with_base c id lits = record { base = c.base ++ record { id = id; lits = lits } ∷ []; steps = c.steps; top = id }

-- unit propagation of the live clauses alone meets no false one: no clause without literals follows
-- by hints
abbrev pub HasNoConflict : CoreState → Type 0
HasNoConflict c = (hints : List ℤ) → IsRup (live_after c.base c.steps) [] hints → ⊥

-- an addition may come behind the steps, under the next id
pub record MayGoOn (c : CoreState) : Type 0 where
  pub lits : List Literal
  pub hints : List ℕ
  pub derivation : IsDerivation c.base (c.steps ++ addition_of (c.top + 1) lits hints ∷ [])

-- a core stayed, or went on by one step that takes clauses away
abbrev pub Trims : CoreState → CoreState → Type 0
Trims old new = (new ≡ old) ⊎ ((ids : List ℕ) × (new ≡ record { base = old.base; steps = old.steps ++ Deletion old.top ids ∷ []; top = old.top }) × IsDerivation old.base (old.steps ++ Deletion old.top ids ∷ []))
