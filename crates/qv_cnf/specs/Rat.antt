-- Added clauses judged by their hints, RAT lines among them.
use Rattle.std.specs.Prelude.{◌≡◌, ℕ, ◌+◌, ◌==◌, ℤ, pos, negsuc, Bool, not, ◌&&◌, ◌||◌, if◌then◌else◌, List, [], ◌∷◌, ◌++◌, map, filter, Option, Some, None}
use Rattle.std.specs.List.{list_any, list_all}
use Rattle.qv_cnf.specs.Literal.{Literal, negated}
use Rattle.qv_cnf.specs.Listing.{Numbered, Rises, clauses_of, clause_named}
use Rattle.qv_cnf.specs.Rup.{same_literal, among, hint_reading, Judgement, Accepted, RatAt, FailsAt, LeftOpen, judged_by, IsRup}
use Rattle.qv_cnf.specs.Truth.{IsModel}
use Rattle.qv_cnf.specs.declared.readings.Reading.{Reading}
use Rattle.qv_cnf.specs.declared.readings.Reading.TheVariants.{Falsified, Forced, Useless}

-- The pivot of a clause is its first literal. The clauses that need a group are those that hold the
-- negation of the pivot and not the pivot.
abbrev pub needs_group : Literal → List Literal → Bool
needs_group pivot lits = among lits (negated pivot) && not (among lits pivot)

-- a clause's literals but for the negation of the pivot
abbrev pub others : Literal → List Literal → List Literal
others pivot lits = filter (λ l. not (same_literal (negated pivot) l)) lits

-- The set of a clause's group as it opens: that which is kept, with the negations of the clause's
-- other literals. There is none where the group closes at once: the clause holds the pivot, or the
-- set that is kept has one of these literals.
abbrev pub group_set : Literal → List Literal → List Literal → Option (List Literal)
group_set pivot kept lits =
    if among lits pivot || list_any (among kept) (others pivot lits) then None else Some (map negated (others pivot lits) ++ kept)

-- a negative hint opens the group of a live clause that holds the negation of the pivot, where no
-- group is open; otherwise it fails
abbrev pub opened : Literal → Option (List Literal) → Option (List Literal) → Judgement → (List Literal → Judgement) → Judgement
opened pivot (Some set) named fails goes_on = fails
opened pivot None None fails goes_on = fails
opened pivot None (Some lits) fails goes_on = if among lits (negated pivot) then goes_on lits else fails

-- what a clause says in an open group: a false one closes it, a forced literal joins its set, and
-- otherwise the hint fails
abbrev pub in_group : Reading → List Literal → Judgement → (Option (List Literal) → Judgement) → Judgement
in_group Falsified set fails goes_on = goes_on None
in_group (Forced l) set fails goes_on = goes_on (Some (l ∷ set))
in_group Useless set fails goes_on = fails

-- a positive hint, which isn't looked at where no group is open
abbrev pub propagated : List Numbered → Option (List Literal) → ℕ → Judgement → (Option (List Literal) → Judgement) → Judgement
propagated live None id fails goes_on = goes_on None
propagated live (Some set) id fails goes_on = in_group (hint_reading set (clause_named id live)) set fails goes_on

-- whether each live clause that needs a group has one, by the ids of the groups
abbrev pub all_grouped : Literal → List ℕ → List Numbered → Bool
all_grouped pivot groups live = list_all (λ c. not (needs_group pivot c.lits) || list_any (λ id. id == c.id) groups) live

-- behind the last hint
abbrev pub grouped : Literal → Option (List Literal) → List ℕ → List Numbered → Judgement
grouped pivot (Some set) groups live = LeftOpen
grouped pivot None groups live = if all_grouped pivot groups live then Accepted else LeftOpen

-- by the hints from this position on, with the set that is kept, that of the open group if one is
-- open, and the ids of the groups so far
abbrev pub judged_groups : List Numbered → Literal → List Literal → Option (List Literal) → List ℕ → List ℤ → ℕ → Judgement
judged_groups live pivot kept group groups [] position = grouped pivot group groups live
judged_groups live pivot kept group groups (negsuc n ∷ hints) position =
    opened pivot group (clause_named (n + 1) live) (RatAt position) (λ lits. judged_groups live pivot kept (group_set pivot kept lits) ((n + 1) ∷ groups) hints (position + 1))
judged_groups live pivot kept group groups (pos id ∷ hints) position =
    propagated live group id (FailsAt position) (λ now. judged_groups live pivot kept now groups hints (position + 1))

-- behind the first part of the hints, the set of which is kept: a clause without literals has no
-- pivot
abbrev pub judged_rat : List Numbered → List Literal → List Literal → List ℤ → ℕ → Judgement
judged_rat live [] kept [] position = LeftOpen
judged_rat live [] kept (hint ∷ hints) position = RatAt position
judged_rat live (pivot ∷ lits) kept hints position = judged_groups live pivot kept None [] hints position

-- by the hints from this position on, where the set has come so far; the first negative one ends
-- the first part
abbrev pub judged_along : List Numbered → List Literal → List ℤ → ℕ → List Literal → Judgement
judged_along live lits [] position set = judged_rat live lits set [] position
judged_along live lits (negsuc n ∷ hints) position set = judged_rat live lits set (negsuc n ∷ hints) position
judged_along live lits (pos id ∷ hints) position set =
    judged_by (hint_reading set (clause_named id live)) (FailsAt position) (λ l. judged_along live lits hints (position + 1) (l ∷ set))

-- a clause by its hints: the set is at first that of the negations of its literals
abbrev pub judged_addition : List Numbered → List Literal → List ℤ → Judgement
judged_addition live lits hints = judged_along live lits hints 1 (map negated lits)

-- the clause follows, or has the resolution asymmetric tautology property, as the hints show
abbrev pub IsRat : List Numbered → List Literal → List ℤ → Type 0
IsRat live lits hints = judged_addition live lits hints ≡ Accepted

-- an accepted clause keeps satisfiability: where the live clauses have a model, so have they with it
abbrev pub RatKeepsModels : Type 0
RatKeepsModels =
    (live : List Numbered) (lits : List Literal) (hints : List ℤ) → Rises 0 (map (λ c. c.id) live) → IsRat live lits hints
    → (v : ℕ → Bool) → IsModel v (clauses_of live) → (w : ℕ → Bool) × IsModel w (clauses_of live ++ lits ∷ [])

-- a clause that follows by its positive hints is accepted so too
abbrev pub RupIsRat : Type 0
RupIsRat = (live : List Numbered) (lits : List Literal) (hints : List ℤ) → IsRup live lits hints → IsRat live lits hints
