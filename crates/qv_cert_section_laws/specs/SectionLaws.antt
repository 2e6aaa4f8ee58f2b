-- What the sections of certificates are for: which problems hold.
use Rattle.std.specs.Prelude.{◌≡◌, ℕ, ◌<◌, Option, Some, IfSome, IsSomeAnd, List, [], ◌∷◌, ◌++◌, length, slice_get}
use Rattle.qv_words.specs.Sort.{IsValueOf}
use Rattle.qv_words.specs.Sorted.{HasValues, no_levels}
use Rattle.qv_words.specs.Meaning.{Means}
use Rattle.qv_words.specs.Problem.{Problem, Existential, Holds}
use Rattle.qv_words.specs.Skolem.{SkolemTerm, SkolemOk, goal_of, term_of}
use Rattle.qv_words.specs.Expansion.{ExpansionLine, IsExpansion, IsLine, grown_behind, leaves_of}
use Rattle.qv_words.specs.GameLaws.{IsProblem, MakesAllTrue, WinsFrom}

-- a problem holds where a section's goal is true for no values
abbrev pub SkolemSoundness : Type 0
SkolemSoundness =
    (p : Problem) (terms : List SkolemTerm) → IsProblem p → SkolemOk p terms →
    ((e : ℕ → Option ℕ) → HasValues [] e (goal_of p terms) → Means [] e (goal_of p terms) 1 → ⊥) → Holds p

-- a point has for each of its places a value of the place's sort, which is what the place's term
-- means there, if it has one
abbrev pub IsLedTo : Problem → List SkolemTerm → List ℕ → Type 0
IsLedTo p terms point =
    (j : ℕ) → j < length point →
    IsSomeAnd (slice_get p.prefix j) (λ place. IsSomeAnd (slice_get point j) (λ v. IsValueOf v place.sort × IfSome (term_of terms j) (λ t. Means [] (slice_get point) t v)))

-- from each point to which such a section's terms lead the existential player wins
abbrev pub SkolemTermsWin : Type 0
SkolemTermsWin =
    (p : Problem) (terms : List SkolemTerm) (point : List ℕ) → IsProblem p → SkolemOk p terms →
    ((e : ℕ → Option ℕ) → HasValues [] e (goal_of p terms) → Means [] e (goal_of p terms) 1 → ⊥) →
    IsLedTo p terms point → WinsFrom p Existential point

-- a value of the sort of an existential place, which its term means without variables
abbrev pub IsValueOfTerm : Problem → List SkolemTerm → ℕ → ℕ → Type 0
IsValueOfTerm p terms j v =
    IsSomeAnd (slice_get p.prefix j) (λ place. (place.quantifier ≡ Existential) × IsValueOf v place.sort)
    × IsSomeAnd (term_of terms j) (λ t. Means [] no_levels t v)

-- so it does with the values of the terms of the first places, where these are existential
abbrev pub FirstTermsWin : Type 0
FirstTermsWin =
    (p : Problem) (terms : List SkolemTerm) (values : List ℕ) → IsProblem p → SkolemOk p terms →
    ((e : ℕ → Option ℕ) → HasValues [] e (goal_of p terms) → Means [] e (goal_of p terms) 1 → ⊥) →
    ((j v : ℕ) → slice_get values j ≡ Some v → IsValueOfTerm p terms j v) → WinsFrom p Existential values

-- it doesn't where no values make all leaves of a list true
abbrev pub ExpansionSoundness : Type 0
ExpansionSoundness =
    (p : Problem) (lines : List ExpansionLine) → IsProblem p → IsExpansion p lines →
    ((e : ℕ → Option ℕ) → MakesAllTrue e (leaves_of p lines) → ⊥) → Holds p → ⊥

-- one more line
abbrev pub ExpansionByOneMore : Type 0
ExpansionByOneMore =
    (p : Problem) (lines : List ExpansionLine) (line : ExpansionLine) →
    (IsExpansion p (lines ++ line ∷ []) → IsExpansion p lines × IsLine p (grown_behind p [] lines) line)
    × (IsExpansion p lines × IsLine p (grown_behind p [] lines) line → IsExpansion p (lines ++ line ∷ []))
