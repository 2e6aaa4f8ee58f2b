-- A checker that is given the clauses and the steps of a core, in the order of their ids.
use Rattle.std.specs.Prelude.{◌≡◌, ◌≤◌, nat_lt, nat_le, not, Bool, true, List, [], ◌∷◌, filter}
use Rattle.std.specs.List.{list_all}
use Rattle.qv_cnf.specs.Listing.{Numbered}
use Rattle.qv_cnf.specs.LratLine.{LratLine, Addition, Deletion}
use Rattle.qv_cnf.specs.Refutation.{Accepted, Standing, after_line, judged_line, standing_at, with_original}

-- it accepts the clauses: each id is greater than all before
abbrev pub Takes : Standing → List Numbered → Type 0
Takes s [] = Unit {0}
Takes s (c ∷ cs) = (s.next ≤ c.id) × Takes (with_original s c.id c.lits) cs

-- where it stands after them
abbrev pub with_clauses : Standing → List Numbered → Standing
with_clauses s [] = s
with_clauses s (c ∷ cs) = with_clauses (with_original s c.id c.lits) cs

-- whether a clause comes before a step
abbrev pub comes_before : LratLine → Numbered → Bool
comes_before (Addition id lits hints) c = nat_lt c.id id
comes_before (Deletion id ids) c = nat_le c.id id

-- all clauses come before the first step
abbrev pub ComesFirst : List Numbered → List LratLine → Type 0
ComesFirst base [] = Unit {0}
ComesFirst base (step ∷ steps) = list_all (comes_before step) base ≡ true

-- the clauses that come before a step, and those that come later
abbrev pub earlier : LratLine → List Numbered → List Numbered
earlier step base = filter (comes_before step) base

abbrev pub later : LratLine → List Numbered → List Numbered
later step base = filter (λ c. not (comes_before step c)) base

-- it accepts the clauses and the steps, one after the other
abbrev pub TakesSteps : Standing → List Numbered → List LratLine → Type 0
TakesSteps s base [] = Takes s base
TakesSteps s base (step ∷ steps) =
    Takes s (earlier step base)
    × (judged_line (with_clauses s (earlier step base)) step ≡ Accepted)
    × TakesSteps (after_line (with_clauses s (earlier step base)) step) (later step base) steps

-- where it stands after all of them
abbrev pub stands_after : Standing → List Numbered → List LratLine → Standing
stands_after s base [] = with_clauses s base
stands_after s base (step ∷ steps) = stands_after (after_line (with_clauses s (earlier step base)) step) (later step base) steps

-- a checker accepts the clauses and each step
abbrev pub IsAccepted : List Numbered → List LratLine → Type 0
IsAccepted base steps = TakesSteps (standing_at []) base steps

-- and is refuted at the end
abbrev pub IsRefuted : List Numbered → List LratLine → Type 0
IsRefuted base steps = (stands_after (standing_at []) base steps).refuted ≡ true
