-- Conjuncts of a region in which a place stands, and terms put into them.
use Rattle.std.specs.Prelude.{◌≡◌, ℕ, ◌<◌, Some, List, map, length, slice_get}
use Rattle.std.specs.List.{AllByRecursion, AllZip}
use Rattle.qv_words.specs.declared.word.Word.{Word}
use Rattle.qv_words.specs.Tree.{Tree, IsQuantifierFree}
use Rattle.qv_words.specs.Sorted.{no_levels, with_level}
use Rattle.qv_words.specs.Replacement.{HasTheirSorts}
use Rattle.qv_words.specs.Problem.{conjunction}
use Rattle.qv_words.specs.Choice.{with_term}
use Rattle.qv_store.specs.Nodes.{tree_at}
use Rattle.qv_store.specs.Walks.{named}
use Rattle.qv_choose_paths.specs.declared.ways.Place.{Place}
use Rattle.qv_choose_candidates.specs.Chosen.{IsChoice}

-- a tree into which a term may be put for a variable
pub record Takes (x : ℕ) (u t : Tree) : Type 0 where
  pub free : IsQuantifierFree t
  pub sorts : HasTheirSorts (with_level no_levels x u) t

-- the members of these numbers
abbrev pub AreAt : List ℕ → List ℕ → List ℕ → Type 0
AreAt ids numbers picked = AllZip (λ n id. slice_get ids n ≡ Some id) numbers picked

-- the term of this number is the choice for a place by the parts of these numbers
pub record IsPartChoice (point : List Word) (p : Place) (old : List Tree) (parts numbers : List ℕ) (new : List Tree) (id : ℕ) : Type 0 where
  pub picked : List ℕ
  pub at : AreAt parts numbers picked
  pub choice : IsChoice point p (conjunction (named old picked)) new id

-- the parts with a term of the store put in
pub record ArePut (x : ℕ) (old : List Tree) (ids : List ℕ) (new : List Tree) (made : List ℕ) (term : ℕ) : Type 0 where
  pub below : AllByRecursion (λ id. id < length new) made
  pub are : named new made ≡ map (with_term x (tree_at new term)) (named old ids)
