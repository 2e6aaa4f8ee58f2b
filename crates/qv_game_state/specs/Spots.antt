-- Levels of a problem, and points of them.
use Rattle.std.specs.Prelude.{◌≡◌, ℕ, ◌-◌, ◌≤◌, Some, List, map, take, slice_get, All}
use Rattle.qv_words.specs.declared.sort.Sort.{Sort}
use Rattle.qv_words.specs.declared.word.Word.{Word}
use Rattle.qv_words.specs.Word.{sorts_of, values_of}
use Rattle.qv_words.specs.Problem.{Place, Problem, Quantifier}
use Rattle.qv_words.specs.Choice.{IsTrueAt}
use Rattle.qv_words.specs.Linked.{Block, Entry, blocks_of, entries_of, places_below}
use Rattle.qv_meter.specs.Queries.{block_count}
use Rattle.qv_game_play_laws.specs.PlayLaws.{sorts_below}

-- the sorts of all places
abbrev pub all_sorts : Problem → List Sort
all_sorts p = map (λ (place : Place). place.sort) p.prefix

-- the block of a level
abbrev pub BlockAt : Problem → ℕ → Block → Type 0
BlockAt p level b = slice_get (blocks_of p.prefix) (level - 1) ≡ Some b

-- the point's front for a level lies in no region of that level
abbrev pub IsOutside : Problem → List Entry → List ℕ → ℕ → Type 0
IsOutside p entries point level =
    (winner : Quantifier) → All (λ f. IsTrueAt (take (places_below (blocks_of p.prefix) level) point) f.region → ⊥) (entries_of level winner entries)

-- a point of a level from which play goes on: it lies in no region of its level, and its fronts lie
-- in none of theirs
pub record IsSpot (p : Problem) (entries : List Entry) (level : ℕ) (point : List Word) : Type 0 where
  pub low : 1 ≤ level
  pub high : level ≤ block_count p
  pub sorts : sorts_of point ≡ sorts_below p level
  pub outside : (k : ℕ) → 1 ≤ k → k ≤ level → IsOutside p entries (values_of point) k
