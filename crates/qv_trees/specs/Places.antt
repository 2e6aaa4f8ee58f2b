-- Terms by their places in a walk.
use Rattle.std.specs.Prelude.{◌≡◌, ℕ, ◌<◌, Some, List, slice_get}
use Rattle.std.specs.List.{AllZip}
use Rattle.qv_words.specs.Tree.{Tree}
use Rattle.qv_store.specs.declared.node.Node.{Node}
use Rattle.qv_store.specs.Nodes.{trees_at, children, node_tree}
use Rattle.qv_store.specs.Replacing.{top_over}

-- a term's place, which is among the first n
pub record IsPlaceOf (walk : List ℕ) (n id place : ℕ) : Type 0 where
  pub below : place < n
  pub at : slice_get walk place ≡ Some id

-- a node with its children's places for its children
pub record IsRenumbered (walk : List ℕ) (n : ℕ) (node new : Node) : Type 0 where
  pub places : AllZip (IsPlaceOf walk n) (children node) (children new)
  pub tree : (trees : List Tree) → node_tree trees new ≡ top_over node (trees_at trees (children new))
