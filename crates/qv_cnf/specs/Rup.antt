-- Unit propagation along hints: LRAT lines without negative hints.
use Rattle.std.specs.Prelude.{◌≡◌, ℕ, ◌+◌, ◌==◌, ℤ, pos, negsuc, Bool, not, cond, ◌&&◌, if◌then◌else◌, List, [], ◌∷◌, map, filter, Option, Some, None}
use Rattle.std.specs.List.{list_any, list_all}
use Rattle.qv_cnf.specs.Literal.{Literal, negated}
use Rattle.qv_cnf.specs.Listing.{Numbered, clause_named}
use Rattle.qv_cnf.specs.declared.readings.Reading.{Reading}
use Rattle.qv_cnf.specs.declared.readings.Reading.TheVariants.{Falsified, Forced, Useless}

-- whether two literals are the same
abbrev pub same_literal : Literal → Literal → Bool
same_literal a b = (a.variable == b.variable) && cond a.positive b.positive (not b.positive)

-- whether the literal is in the set
abbrev pub among : List Literal → Literal → Bool
among set l = list_any (same_literal l) set

-- a clause's literals whose negation isn't in the set
abbrev pub open_literals : List Literal → List Literal → List Literal
open_literals set lits = filter (λ l. not (among set (negated l))) lits

-- what a clause says where the literals of a set are true, by its open literals: false where there
-- is none, and a literal is forced where it alone is open and isn't in the set
abbrev pub reading_of : List Literal → List Literal → Reading
reading_of set [] = Falsified
reading_of set (l ∷ ls) = if list_all (same_literal l) ls && not (among set l) then Forced l else Useless

-- what the clause of a hint says, where there is one
abbrev pub hint_reading : List Literal → Option (List Literal) → Reading
hint_reading set None = Useless
hint_reading set (Some lits) = reading_of set (open_literals set lits)

-- how an added clause is judged: it is accepted, or its id isn't above all before, the negative or
-- the positive hint at a position (from 1) fails, or the hints don't show enough
pub data Judgement : Type 0 where
  Accepted : Judgement
  OutOfOrder : Judgement
  RatAt : ℕ → Judgement
  FailsAt : ℕ → Judgement
  LeftOpen : Judgement

-- a false clause accepts, a forced literal goes on, and otherwise the hint fails
abbrev pub judged_by : Reading → Judgement → (Literal → Judgement) → Judgement
judged_by Falsified fails goes_on = Accepted
judged_by (Forced l) fails goes_on = goes_on l
judged_by Useless fails goes_on = fails

-- by the hints from this position on, in order, where the set has come so far
abbrev pub judged_from : List Numbered → List ℤ → ℕ → List Literal → Judgement
judged_from live [] position set = LeftOpen
judged_from live (negsuc n ∷ hints) position set = RatAt position
judged_from live (pos id ∷ hints) position set =
    judged_by (hint_reading set (clause_named id live)) (FailsAt position) (λ l. judged_from live hints (position + 1) (l ∷ set))

-- a clause by its hints: the set is at first that of the negations of its literals
abbrev pub judged_clause : List Numbered → List Literal → List ℤ → Judgement
judged_clause live lits hints = judged_from live hints 1 (map negated lits)

-- the clause follows from the live ones by unit propagation along the hints
abbrev pub IsRup : List Numbered → List Literal → List ℤ → Type 0
IsRup live lits hints = judged_clause live lits hints ≡ Accepted
