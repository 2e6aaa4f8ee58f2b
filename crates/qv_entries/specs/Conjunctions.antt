-- Conjunctions in a store, whose parts are tried one by one.
use Rattle.std.specs.Prelude.{◌≡◌, ℕ, ◌<◌, List}
use Rattle.qv_words.specs.declared.op.Op.TheVariants.{And}
use Rattle.qv_words.specs.Tree.{Tree}
use Rattle.qv_words.specs.Prenex.{binary}
use Rattle.qv_words.specs.Choice.{IsTrueAt}
use Rattle.qv_store.specs.Nodes.{tree_at}

-- a term of the store that is the conjunction of two that stand before it
pub record IsConjunction (trees : List Tree) (id front part : ℕ) : Type 0 where
  pub tree : tree_at trees id ≡ binary And (tree_at trees front) (tree_at trees part)
  pub front_before : front < id
  pub part_before : part < id

-- of two terms of the store both are true at a point, or neither is
pub record AreAlike (trees : List Tree) (point : List ℕ) (a b : ℕ) : Type 0 where
  pub there : IsTrueAt point (tree_at trees a) → IsTrueAt point (tree_at trees b)
  pub back : IsTrueAt point (tree_at trees b) → IsTrueAt point (tree_at trees a)
