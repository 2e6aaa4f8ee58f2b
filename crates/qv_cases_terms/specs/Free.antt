-- Which variables are not free in a tree.
use Rattle.std.specs.Prelude.{◌≡◌, ◌≢◌, ℕ, ◌<◌, Bool, false, List, length, slice_index_or}
use Rattle.std.specs.List.{AllByRecursion}
use Rattle.qv_words.specs.Tree.{Tree}
use Rattle.qv_words.specs.Sorted.{free_levels}
use Rattle.qv_store.specs.Nodes.{tree_at}

-- no variable of this level is free
abbrev pub IsFreeOf : ℕ → Tree → Type 0
IsFreeOf level t = AllByRecursion (λ leaf. leaf.0 ≢ level) (free_levels t)

-- nor in the trees that aren't marked
abbrev pub AreFreeOf : ℕ → List Tree → List Bool → Type 0
AreFreeOf level trees free =
    (n : ℕ) → n < length free → slice_index_or free n false ≡ false → IsFreeOf level (tree_at trees n)
