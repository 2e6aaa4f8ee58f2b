-- The choice of terms for a block, over a store.
use Rattle.std.specs.Prelude.{◌≡◌, ℕ, ◌⊎◌, Option, Some, unwrap_or, option_map, List, [], ◌∷◌, filter, slice_get}
use Rattle.std.specs.List.{flat_map}
use Rattle.qv_words.specs.declared.sort.Sort.{Sort}
use Rattle.qv_words.specs.declared.sort.Sort.TheVariants.{Bool}
use Rattle.qv_words.specs.declared.word.Word.{Word}
use Rattle.qv_words.specs.Word.{word_sort, values_of}
use Rattle.qv_words.specs.Tree.{Tree}
use Rattle.qv_words.specs.Clauses.{nodes}
use Rattle.qv_words.specs.Choice.{candidates_of, is_outside, IsFirst, IsPointLiteral, IsChosen}
use Rattle.qv_store.specs.Stores.{StandsAt}
use Rattle.qv_choose_paths.specs.declared.ways.Place.{Place}
use Rattle.qv_choose_candidates.specs.declared.offers.Offer.{Offer}
use Rattle.qv_choose_candidates.specs.Offers.{offered}

-- the sort of a place, by its word at the point
abbrev pub place_sort : List Word → ℕ → Sort
place_sort point x = unwrap_or (option_map word_sort (slice_get point x)) Bool

-- the term of this number is the choice for a place
pub record IsChoice (point : List Word) (p : Place) (region : Tree) (trees : List Tree) (id : ℕ) : Type 0 where
  pub term : Tree
  pub stands : StandsAt trees id term
  pub chosen : IsChosen p.first p.end (values_of point) region p.level (place_sort point p.level) term

-- the candidates but for the definition
abbrev pub others : Place → Tree → List Tree
others p region = filter (is_outside p.first p.end) (flat_map (candidates_of p.level) (nodes (region ∷ [])))

-- the choice among them
pub record IsOtherChoice (point : List Word) (p : Place) (region : Tree) (trees : List Tree) (id : ℕ) : Type 0 where
  pub term : Tree
  pub stands : StandsAt trees id term
  pub chosen : IsFirst (values_of point) region p.level (others p region) term ⊎ IsPointLiteral (values_of point) region p.level (place_sort point p.level) (others p region) term

-- the term of a candidate
pub record IsPut (p : Place) (old : List Tree) (o : Offer) (new : List Tree) (id : ℕ) : Type 0 where
  pub term : Tree
  pub is : offered p old o ≡ Some term
  pub stands : StandsAt new id term
