-- Formulas that stand in a store. No public contract cites this.
use Rattle.std.specs.Prelude.{◌≡◌, ℕ, ◌<◌, Option, Some, IfSome, List, length}
use Rattle.qv_words.specs.declared.sort.Sort.{Sort}
use Rattle.qv_words.specs.declared.sort.Sort.TheVariants.{Bool}
use Rattle.qv_words.specs.Tree.{Tree, tree_sort}
use Rattle.qv_words.specs.Sorted.{IsSortedBelow}
use Rattle.qv_store.specs.Nodes.{tree_at}

-- no level has another sort than Bool
abbrev pub AreBoolLevels : (ℕ → Option Sort) → Type 0
AreBoolLevels levels = (l : ℕ) → IfSome (levels l) (λ s. Bool ≡ s)

-- a formula that is sorted below any such levels
pub record IsFormula (t : Tree) : Type 0 where
  pub sorted : (levels : ℕ → Option Sort) → AreBoolLevels levels → IsSortedBelow levels t
  pub bool : tree_sort t ≡ Some Bool

-- one stands at this number
pub record IsFormulaAt (trees : List Tree) (id : ℕ) : Type 0 where
  pub below : id < length trees
  pub formula : IsFormula (tree_at trees id)
