-- What linked lists are for: who wins from the points of their regions, and what is drawn from
-- them.
use Rattle.std.specs.Prelude.{◌≡◌, ℕ, Some, Option, List, [], slice_get}
use Rattle.qv_words.specs.Sorted.{HasValues}
use Rattle.qv_words.specs.Meaning.{Means}
use Rattle.qv_words.specs.Problem.{Problem, Existential, Universal}
use Rattle.qv_words.specs.Choice.{IsTrueAt}
use Rattle.qv_words.specs.Skolem.{SkolemOk, goal_of}
use Rattle.qv_words.specs.Expansion.{IsExpansion, leaves_of}
use Rattle.qv_words.specs.Linked.{Entry, IsLinked, chain, tree_of}
use Rattle.qv_words.specs.GameLaws.{IsProblem, IsPointOf, WinsFrom, HasWon, MakesAllTrue}

-- an entry's winner wins from every point of the entry's region
abbrev pub RegionTheorem : Type 0
RegionTheorem =
    (p : Problem) (entries : List Entry) (n : ℕ) (e : Entry) (point : List ℕ) → IsProblem p → IsLinked p entries →
    slice_get entries n ≡ Some e → IsPointOf p e.level point → IsTrueAt point e.region →
    WinsFrom p e.winner point

-- where the existential player has won, the terms that are drawn are a Skolem section, and its goal
-- is true for no values
abbrev pub ChainTheorem : Type 0
ChainTheorem =
    (p : Problem) (entries : List Entry) → IsProblem p → IsLinked p entries → HasWon p Existential entries →
    SkolemOk p (chain p entries)
    × ((e : ℕ → Option ℕ) → HasValues [] e (goal_of p (chain p entries)) → Means [] e (goal_of p (chain p entries)) 1 → ⊥)

-- where the universal player has won, the lines that are drawn are an expansion list, and no values
-- of its eigenvariables make all its leaves true
abbrev pub TreeTheorem : Type 0
TreeTheorem =
    (p : Problem) (entries : List Entry) → IsProblem p → IsLinked p entries → HasWon p Universal entries →
    IsExpansion p (tree_of p entries)
    × ((e : ℕ → Option ℕ) → MakesAllTrue e (leaves_of p (tree_of p entries)) → ⊥)
