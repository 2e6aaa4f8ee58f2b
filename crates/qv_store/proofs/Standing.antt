-- The trees of numbers, and of nodes, where more trees come behind.
use Rattle.std.proofs.Common.{◌≡◌, ℕ, ◌<◌, List, [], ◌∷◌, ◌++◌, length, refl, ap, arith}
use Rattle.std.specs.List.{AllByRecursion}
use Rattle.std.proofs.lemmas.List.{get_or_append_left, get_or_push}
use Rattle.std.proofs.lemmas.List.Elements.{recursion_from_All}
use Rattle.qv_words.specs.declared.sort.Sort.TheVariants.{Bool}
use Rattle.qv_words.specs.Tree.{Tree, Literal, Apply, ForAll, Exists}
use Rattle.qv_store.specs.declared.node.Node.{Node}
use Rattle.qv_store.specs.declared.node.Node.TheVariants.{Const, Var, Lit, App, Ex}
use Rattle.qv_store.specs.declared.node.Node.TheVariants.{All as AllNode}
use Rattle.qv_store.specs.Nodes.{tree_at, trees_at, node_tree, HasChildrenBelow}

-- a number below keeps its tree
pub tree_at-before : (xs ys : List Tree) (n : ℕ) → n < length xs → tree_at (xs ++ ys) n ≡ tree_at xs n
tree_at-before xs ys n h = get_or_append_left xs ys (Literal Bool 0) n h

-- the last tree
pub tree_at-last : (xs : List Tree) (t : Tree) → tree_at (xs ++ t ∷ []) (length xs) ≡ t
tree_at-last xs t = get_or_push xs t (Literal Bool 0) (length xs) refl

pub trees_at-before : (xs ys : List Tree) (ns : List ℕ) → AllByRecursion (λ n. n < length xs) ns → trees_at (xs ++ ys) ns ≡ trees_at xs ns
trees_at-before xs ys [] h = refl
trees_at-before xs ys (n ∷ ns) h =
    let first : tree_at (xs ++ ys) n ≡ tree_at xs n = tree_at-before xs ys n h.0 in
    let rest : trees_at (xs ++ ys) ns ≡ trees_at xs ns = trees_at-before xs ys ns h.1 in
    cc

-- a node whose children are below keeps its tree
pub node_tree-before : (xs ys : List Tree) (node : Node) → HasChildrenBelow (length xs) node → node_tree (xs ++ ys) node ≡ node_tree xs node
node_tree-before xs ys (Const i s) h = refl
node_tree-before xs ys (Var l s) h = refl
node_tree-before xs ys (Lit w) h = refl
node_tree-before xs ys (App o kids) h = ap (Apply o) (trees_at-before xs ys kids.items (recursion_from_All _ kids.items h))
node_tree-before xs ys (AllNode l s body) h = ap (ForAll l s) (tree_at-before xs ys body (h 0 body (omega arith)))
node_tree-before xs ys (Ex l s body) h = ap (Exists l s) (tree_at-before xs ys body (h 0 body (omega arith)))
