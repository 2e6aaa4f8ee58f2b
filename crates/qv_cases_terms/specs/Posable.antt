-- Which terms may be asserted together.
use Rattle.std.specs.Prelude.{◌≡◌, ℕ, ◌<◌, Some, List, All, length, map}
use Rattle.qv_words.specs.declared.sort.Sort.TheVariants.{Bool as BoolSort}
use Rattle.qv_words.specs.Tree.{Tree, tree_sort}
use Rattle.qv_words.specs.Truth.{IsAssertion, HaveOneSort}
use Rattle.qv_store.specs.Nodes.{tree_at}

-- a formula of a store
pub record IsFormulaAt (trees : List Tree) (n : ℕ) : Type 0 where
  pub below : n < length trees
  pub bool : tree_sort (tree_at trees n) ≡ Some BoolSort

-- what calls that pose formulas as a problem ask of them
pub record MayBePosed (trees : List Tree) (ids : List ℕ) : Type 0 where
  pub ids_below : All (λ n. n < length trees) ids
  pub assertions : All IsAssertion (map (tree_at trees) ids)
  pub sorts : HaveOneSort (map (tree_at trees) ids)
