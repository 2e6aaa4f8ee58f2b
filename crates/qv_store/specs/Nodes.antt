-- Nodes, and the trees that they stand for over trees by number.
use Rattle.std.specs.Prelude.{◌≡◌, ℕ, ◌<◌, List, [], ◌∷◌, All, slice_index_or}
use Rattle.qv_words.specs.declared.sort.Sort.TheVariants.{Bool}
use Rattle.qv_words.specs.Word.{word_sort, word_value}
use Rattle.qv_words.specs.Tree.{Tree, Trees, Constant, Variable, Literal, Apply, ForAll, Exists, Nil, Cons}
use Rattle.qv_store.specs.declared.node.Node.{Node}
use Rattle.qv_store.specs.declared.node.Node.TheVariants.{Const, Var, Lit, App, Ex}
use Rattle.qv_store.specs.declared.node.Node.TheVariants.{All as AllNode}

-- the tree of a number
abbrev pub tree_at : List Tree → ℕ → Tree
tree_at trees n = slice_index_or trees n (Literal Bool 0)

-- the trees of numbers
abbrev pub trees_at : List Tree → List ℕ → Trees
trees_at trees [] = Nil
trees_at trees (n ∷ ns) = Cons (tree_at trees n) (trees_at trees ns)

-- the numbers of a node's children, in order
abbrev pub children : Node → List ℕ
children (Const i s) = []
children (Var l s) = []
children (Lit w) = []
children (App o kids) = kids.items
children (AllNode l s body) = body ∷ []
children (Ex l s body) = body ∷ []

-- the tree of a node
abbrev pub node_tree : List Tree → Node → Tree
node_tree trees (Const i s) = Constant i s
node_tree trees (Var l s) = Variable l s
node_tree trees (Lit w) = Literal (word_sort w) (word_value w)
node_tree trees (App o kids) = Apply o (trees_at trees kids.items)
node_tree trees (AllNode l s body) = ForAll l s (tree_at trees body)
node_tree trees (Ex l s body) = Exists l s (tree_at trees body)

-- the children of a node stand below this number
abbrev pub HasChildrenBelow : ℕ → Node → Type 0
HasChildrenBelow n node = All (λ child. child < n) (children node)

-- two nodes have the same children, and the same tree over all trees
pub record IsLike (a b : Node) : Type 0 where
  pub children : children b ≡ children a
  pub tree : (trees : List Tree) → node_tree trees b ≡ node_tree trees a
