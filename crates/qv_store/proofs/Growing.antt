-- The trees of nodes, each over those before it.
use Rattle.std.proofs.Common.{◌≡◌, ℕ, zero, suc, ◌+◌, List, [], ◌∷◌, ◌++◌, length, slice_get, Some, refl, ap, subst, sym, ◌∙◌, arith, append_assoc, length-append}
use Rattle.qv_words.specs.Tree.{Tree}
use Rattle.qv_words.proofs.NewNodes.{nil-behind}
use Rattle.qv_store.specs.declared.node.Node.{Node}
use Rattle.qv_store.specs.Nodes.{tree_at, node_tree, HasChildrenBelow}
use Rattle.qv_store.specs.Kept.{trees_behind, trees_of, AreGrown}
use Rattle.qv_store.proofs.Standing.{tree_at-before, tree_at-last, node_tree-before}

-- the trees that stand before stay in front
pub behind-front : (trees : List Tree) (nodes : List Node) → (more : List Tree) × (trees_behind trees nodes ≡ trees ++ more)
behind-front trees [] = ([], nil-behind trees)
behind-front trees (node ∷ nodes) =
    let rest = behind-front (trees ++ node_tree trees node ∷ []) nodes in
    (node_tree trees node ∷ rest.0, rest.1 ∙ append_assoc trees (node_tree trees node ∷ []) rest.0)

pub length-behind : (trees : List Tree) (nodes : List Node) → length (trees_behind trees nodes) ≡ length trees + length nodes
length-behind trees [] = omega arith
length-behind trees (node ∷ nodes) =
    omega (arith, length-behind (trees ++ node_tree trees node ∷ []) nodes, length-append trees (node_tree trees node ∷ []))

-- one node more
pub behind-push : (trees : List Tree) (nodes : List Node) (node : Node) → trees_behind trees (nodes ++ node ∷ []) ≡ trees_behind trees nodes ++ node_tree (trees_behind trees nodes) node ∷ []
behind-push trees [] node = refl
behind-push trees (first ∷ nodes) node = behind-push (trees ++ node_tree trees first ∷ []) nodes node

pub length-push : (trees : List Tree) (t : Tree) → length (trees ++ t ∷ []) ≡ suc (length trees)
length-push trees t = omega (arith, length-append trees (t ∷ []))

-- the node of a number: its tree stands there, and its children stand below
pub record IsNodeAt (trees : List Tree) (n : ℕ) (node : Node) : Type 0 where
  pub tree : tree_at trees n ≡ node_tree trees node
  pub children : HasChildrenBelow n node

pub behind-node : (trees : List Tree) (nodes : List Node) (k : ℕ) (node : Node) → AreGrown (length trees) nodes → slice_get nodes k ≡ Some node → IsNodeAt (trees_behind trees nodes) (length trees + k) node
behind-node trees [] k node grown at = absurd (cc)
behind-node trees (first ∷ nodes) zero node grown at =
    let next = trees ++ node_tree trees first ∷ [] in
    let front = behind-front next nodes in
    let same : first ≡ node = cc in
    let whole : trees_behind next nodes ≡ trees ++ (node_tree trees first ∷ front.0) = front.1 ∙ append_assoc trees (node_tree trees first ∷ []) front.0 in
    let here : tree_at (trees_behind next nodes) (length trees) ≡ node_tree trees first =
    ap (λ ts. tree_at ts (length trees)) front.1
    ∙ tree_at-before next front.0 (length trees) (omega (arith, length-push trees (node_tree trees first)))
    ∙ tree_at-last trees (node_tree trees first) in
    let over : node_tree (trees_behind next nodes) first ≡ node_tree trees first =
    ap (λ ts. node_tree ts first) whole ∙ node_tree-before trees (node_tree trees first ∷ front.0) first grown.0 in
    let none : length trees ≡ length trees + 0 = omega arith in
    let P : ℕ → Node → Type 0 = λ n m. IsNodeAt (trees_behind next nodes) n m in
    subst (λ (m : Node). P (length trees + 0) m) same (subst (λ n. P n first) none (record { tree = here ∙ sym over; children = grown.0 }))
behind-node trees (first ∷ nodes) (suc k) node grown at =
    let next = trees ++ node_tree trees first ∷ [] in
    let longer : length next ≡ suc (length trees) = length-push trees (node_tree trees first) in
    let rest = behind-node next nodes k node (subst (λ n. AreGrown n nodes) (sym longer) grown.1) at in
    let moved : length next + k ≡ length trees + suc k = omega (arith, longer) in
    subst (λ n. IsNodeAt (trees_behind next nodes) n node) moved rest

pub length-trees_of : (nodes : List Node) → length (trees_of nodes) ≡ length nodes
unfolding trees_of
length-trees_of nodes = omega (arith, length-behind [] nodes)

pub trees_of-push : (nodes : List Node) (node : Node) → trees_of (nodes ++ node ∷ []) ≡ trees_of nodes ++ node_tree (trees_of nodes) node ∷ []
unfolding trees_of
trees_of-push nodes node = behind-push [] nodes node

pub trees_of-node : (nodes : List Node) (n : ℕ) (node : Node) → AreGrown 0 nodes → slice_get nodes n ≡ Some node → IsNodeAt (trees_of nodes) n node
unfolding trees_of
trees_of-node nodes n node grown at =
    let none : 0 + n ≡ n = omega arith in
    subst (λ m. IsNodeAt (trees_behind [] nodes) m node) none (behind-node [] nodes n node grown at)

pub grown-push : (n : ℕ) (nodes : List Node) (node : Node) → AreGrown n nodes → HasChildrenBelow (n + length nodes) node → AreGrown n (nodes ++ node ∷ [])
grown-push n [] node grown h = let none : n + 0 ≡ n = omega arith in (subst (λ k. HasChildrenBelow k node) none h, tt)
grown-push n (first ∷ nodes) node grown h =
    let moved : n + suc (length nodes) ≡ suc n + length nodes = omega arith in
    (grown.0, grown-push (suc n) nodes node grown.1 (subst (λ k. HasChildrenBelow k node) moved h))
