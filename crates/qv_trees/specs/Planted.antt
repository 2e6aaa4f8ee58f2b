-- Terms of a list as terms of a store.
use Rattle.std.specs.Prelude.{◌≡◌, ℕ, ◌<◌, List, All, length}
use Rattle.qv_words.specs.Tree.{Tree, Trees}
use Rattle.qv_store.specs.Nodes.{trees_at}

-- these are the ids of these trees
pub record ArePlanted (store : List Tree) (ids : List ℕ) (ts : Trees) : Type 0 where
  pub within : All (λ id. id < length store) ids
  pub trees : trees_at store ids ≡ ts
