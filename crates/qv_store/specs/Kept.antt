-- How a store keeps its trees: the list of their nodes, and facts beside.
use Rattle.std.specs.Prelude.{◌≡◌, ℕ, suc, ◌<◌, ◌^◌, List, [], ◌∷◌, ◌++◌, map, length}
use Rattle.qv_words.specs.Tree.{Tree}
use Rattle.qv_store.specs.declared.node.Node.{Node}
use Rattle.qv_store.specs.declared.facts.Facts.{Facts}
use Rattle.qv_store.specs.Nodes.{node_tree, HasChildrenBelow}
use Rattle.qv_store.specs.Stores.{AreShared}
use Rattle.qv_store.specs.Facts.{facts_of}

-- the trees of nodes behind others, each over those before it
abbrev pub trees_behind : List Tree → List Node → List Tree
trees_behind trees [] = trees
trees_behind trees (node ∷ nodes) = trees_behind (trees ++ node_tree trees node ∷ []) nodes

unfoldable pub trees_of : List Node → List Tree
trees_of nodes = trees_behind [] nodes

-- nodes, the first of which has this number, have their children before them
abbrev pub AreGrown : ℕ → List Node → Type 0
AreGrown n [] = Unit {0}
AreGrown n (node ∷ nodes) = HasChildrenBelow n node × AreGrown (suc n) nodes

-- the parts of a store
pub record IsKept (nodes : List Node) (beside : List Facts) : Type 0 where
  pub grown : AreGrown 0 nodes
  pub shared : AreShared (trees_of nodes)
  pub facts : beside ≡ map facts_of (trees_of nodes)
  pub few : length nodes < 2 ^ 32
