-- Problems, the points of their levels, who wins from them, and when a list's game is won.
use Rattle.std.specs.Prelude.{◌≡◌, ◌⊎◌, ℕ, Option, List, [], All, drop, length, slice_get, take}
use Rattle.std.specs.List.{AllZip}
use Rattle.qv_words.specs.declared.sort.Sort.TheVariants.{Bool as BoolSort}
use Rattle.qv_words.specs.Sort.{IsLawful, IsValueOf}
use Rattle.qv_words.specs.Tree.{Tree}
use Rattle.qv_words.specs.Sorted.{HasValues, free_levels, no_levels}
use Rattle.qv_words.specs.Meaning.{Means}
use Rattle.qv_words.specs.Problem.{Problem, Quantifier, Existential, Universal, closed_from, Holds}
use Rattle.qv_words.specs.Skolem.{IsTermOf}
use Rattle.qv_words.specs.Linked.{Entry, IsPlaceBelow, HoldsFirst, blocks_of, places_below}

-- lawful places, and a sorted formula over them without quantifiers and constants
pub record IsProblem (p : Problem) : Type 0 where
  pub sorts : All (λ place. IsLawful place.sort) p.prefix
  pub matrix : IsTermOf p.matrix BoolSort
  pub variables : All (IsPlaceBelow p (length p.prefix)) (free_levels p.matrix)

-- a point of a level has a value of its sort for each place of the blocks before
abbrev pub IsPointOf : Problem → ℕ → List ℕ → Type 0
IsPointOf p level point = AllZip (λ v place. IsValueOf v place.sort) point (take (places_below (blocks_of p.prefix) level) p.prefix)

-- what the closed matrix means where a player wins
abbrev pub winning_value : Quantifier → ℕ
winning_value Existential = 1
winning_value Universal = 0

-- from a point, the matrix closed by the quantifiers of the places behind it means what the player
-- wants
abbrev pub WinsFrom : Problem → Quantifier → List ℕ → Type 0
WinsFrom p player point =
    Means [] (slice_get point) (closed_from (length point) (drop (length point) p.prefix) p.matrix) (winning_value player)

-- from the point without values the existential player wins exactly where the problem holds
abbrev pub WinningAtStart : Type 0
WinningAtStart = (p : Problem) → (WinsFrom p Existential [] → Holds p) × (Holds p → WinsFrom p Existential [])

-- from no point do both players win
abbrev pub OneWinner : Type 0
OneWinner = (p : Problem) (point : List ℕ) → WinsFrom p Existential point → WinsFrom p Universal point → ⊥

-- values that make all formulas of a list true
abbrev pub MakesAllTrue : (ℕ → Option ℕ) → List Tree → Type 0
MakesAllTrue e formulas = All (λ t. HasValues [] e t × Means [] e t 1) formulas

-- a player wins a list's game: it holds level 1, or there are no places and the matrix decides for
-- it
abbrev pub HasWon : Problem → Quantifier → List Entry → Type 0
HasWon p player entries = HoldsFirst player entries ⊎ ((p.prefix ≡ []) × (entries ≡ []) × Means [] no_levels p.matrix (winning_value player))
