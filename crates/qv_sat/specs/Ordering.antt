-- The order of the ids of a core's clauses and steps.
use Rattle.std.specs.Prelude.{ℕ, ◌+◌, ◌≤◌, List, [], ◌∷◌, map, All}
use Rattle.qv_cnf.specs.Listing.{Numbered, Rises}
use Rattle.qv_cnf.specs.LratLine.{LratLine, Addition, Deletion}

-- the ids of the steps rise from low on and are below high: an addition's id is new, and a
-- deletion's may be that of the step before
abbrev pub StepsRise : ℕ → List LratLine → ℕ → Type 0
StepsRise low [] high = low ≤ high
StepsRise low (Addition id lits hints ∷ steps) high = (low ≤ id) × StepsRise (id + 1) steps high
StepsRise low (Deletion id ids ∷ steps) high = (low ≤ id + 1) × StepsRise (id + 1) steps high

-- the ids of the clauses rise, those of the steps rise, and none is above the top
pub record IsOrdered (base : List Numbered) (steps : List LratLine) (top : ℕ) : Type 0 where
  pub clauses_rise : Rises 0 (map (λ c. c.id) base)
  pub clauses_below : All (λ c. c.id ≤ top) base
  pub steps_rise : StepsRise 0 steps (top + 1)
