-- The term by which a region defines a truth value.
use Rattle.std.specs.Prelude.{◌≡◌, ℕ, ◌<◌, true, Option, Some, None, List, [], ◌∷◌, length}
use Rattle.qv_words.specs.declared.sort.Sort.TheVariants.{Bool as BoolSort}
use Rattle.qv_words.specs.Tree.{Tree, tree_sort}
use Rattle.qv_words.specs.Choice.{is_outside}
use Rattle.qv_store.specs.Nodes.{tree_at}
use Rattle.qv_store.specs.Stores.{StandsAt}
use Rattle.qv_choose_paths.specs.declared.ways.Place.{Place}

-- the one term of a list, outside the block
pub record IsOnly (p : Place) (trees : List Tree) (terms : List Tree) (id : ℕ) : Type 0 where
  pub term : Tree
  pub is : terms ≡ term ∷ []
  pub stands : StandsAt trees id term
  pub outside : is_outside p.first p.end term ≡ true

-- it, or there is none
abbrev pub IsDefinition : Place → List Tree → List Tree → Option ℕ → Type 0
IsDefinition p trees terms None = terms ≡ []
IsDefinition p trees terms (Some id) = IsOnly p trees terms id

-- a truth value of a store
pub record IsTruth (trees : List Tree) (id : ℕ) : Type 0 where
  pub below : id < length trees
  pub bool : tree_sort (tree_at trees id) ≡ Some BoolSort
