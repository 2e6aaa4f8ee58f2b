-- Facts of nodes over those of their children are those of their trees.
use Rattle.std.proofs.Common.{◌≡◌, ℕ, zero, suc, ◌+◌, ◌<◌, ◌≤◌, max, ◌||◌, List, [], ◌∷◌, length, map, Some, option_map, option_and_then, refl, ap, sym, ◌∙◌, arith, unwrap_or}
use Rattle.std.specs.List.{AllByRecursion, list_any}
use Rattle.std.proofs.lemmas.List.{get_or-map}
use Rattle.std.proofs.lemmas.List.Elements.{recursion_from_All}
use Rattle.qv_words.specs.declared.sort.Sort.TheVariants.{Bool as BoolSort}
use Rattle.qv_words.specs.Rank.{result_sort}
use Rattle.qv_words.specs.Tree.{Tree, Trees, Literal, Apply, Nil, Cons, tree_sort, tree_sorts, closed_sort}
use Rattle.qv_words.specs.Sorted.{IsSorted, no_levels}
use Rattle.qv_words.specs.Prenex.{is_quantified, is_some_quantified}
use Rattle.qv_words.proofs.Existing.{has_sort}
use Rattle.qv_store.specs.declared.node.Node.{Node}
use Rattle.qv_store.specs.declared.node.Node.TheVariants.{Const, Var, Lit, App, Ex}
use Rattle.qv_store.specs.declared.node.Node.TheVariants.{All as AllNode}
use Rattle.qv_store.specs.declared.facts.Facts.{Facts}
use Rattle.qv_store.specs.Depth.{depth_of, depth_of_all}
use Rattle.qv_store.specs.Nodes.{tree_at, trees_at, children, node_tree, HasChildrenBelow}
use Rattle.qv_store.specs.Stores.{AreShared, AreBelow, children_of}
use Rattle.qv_store.specs.Facts.{facts_of, facts_at, sorts_at, deepest, sort_over, is_quantified_over}

pub facts_at-tree : (trees : List Tree) (n : ℕ) → n < length trees → facts_at (map facts_of trees) n ≡ facts_of (tree_at trees n)
facts_at-tree trees n h = get_or-map facts_of trees n (Literal BoolSort 0) _ h

-- a tree of a store has the sort that is kept
pub kept-sort : (trees : List Tree) (n : ℕ) → AreShared trees → n < length trees → tree_sort (tree_at trees n) ≡ Some (facts_at (map facts_of trees) n).sort
kept-sort trees n shared h =
    let at = has_sort (tree_at trees n) no_levels (shared.sorted n h) in
    at.1 ∙ sym (ap (λ (f : Facts). Some f.sort) (facts_at-tree trees n h) ∙ ap (λ o. Some (unwrap_or o BoolSort)) at.1)

module _ (trees : List Tree) (shared : AreShared trees) where
  abbrev facts : List Facts
  facts = map facts_of trees

  sorts-kept : (kids : List ℕ) → AllByRecursion (λ n. n < length trees) kids → tree_sorts (trees_at trees kids) ≡ Some (sorts_at (map facts_of trees) kids)
  sorts-kept [] h = refl
  sorts-kept (k ∷ ks) h =
      let first = kept-sort trees k shared h.0 in
      let rest = sorts-kept ks h.1 in
      ap (λ o. option_and_then (λ s. option_map (λ sorts. s ∷ sorts) (tree_sorts (trees_at trees ks))) o) first
      ∙ ap (λ o. option_map (λ sorts. (facts_at (map facts_of trees) k).sort ∷ sorts) o) rest

  deepest-kept : (kids : List ℕ) → AllByRecursion (λ n. n < length trees) kids → deepest (map facts_of trees) kids ≡ depth_of_all (trees_at trees kids)
  deepest-kept [] h = refl
  deepest-kept (k ∷ ks) h =
      ap (λ d. max d (deepest (map facts_of trees) ks)) (ap (λ (f : Facts). f.depth) (facts_at-tree trees k h.0))
      ∙ ap (max (depth_of (tree_at trees k))) (deepest-kept ks h.1)

  quantified-kept : (kids : List ℕ) → AllByRecursion (λ n. n < length trees) kids → list_any (λ n. (facts_at (map facts_of trees) n).quantified) kids ≡ is_some_quantified (trees_at trees kids)
  quantified-kept [] h = refl
  quantified-kept (k ∷ ks) h =
      ap (λ b. b || list_any (λ n. (facts_at (map facts_of trees) n).quantified) ks) (ap (λ (f : Facts). f.quantified) (facts_at-tree trees k h.0))
      ∙ ap (λ b. is_quantified (tree_at trees k) || b) (quantified-kept ks h.1)

  pub sort-over : (node : Node) → HasChildrenBelow (length trees) node → IsSorted (node_tree trees node) → sort_over (map facts_of trees) node ≡ tree_sort (node_tree trees node)
  sort-over (Const i s) kids sorted = refl
  sort-over (Var l s) kids sorted = refl
  sort-over (Lit w) kids sorted = refl
  sort-over (App o ks) kids sorted = sym (ap (option_and_then (result_sort o)) (sorts-kept ks.items (recursion_from_All _ ks.items kids)))
  sort-over (AllNode l s body) kids sorted = sym (ap closed_sort sorted.2)
  sort-over (Ex l s body) kids sorted = sym (ap closed_sort sorted.2)

  pub depth-over : (node : Node) → HasChildrenBelow (length trees) node → deepest (map facts_of trees) (children node) + 1 ≡ depth_of (node_tree trees node)
  depth-over (Const i s) kids = refl
  depth-over (Var l s) kids = refl
  depth-over (Lit w) kids = refl
  depth-over (App o ks) kids = omega (arith, deepest-kept ks.items (recursion_from_All _ ks.items kids))
  depth-over (AllNode l s body) kids = omega (arith, deepest-kept (body ∷ []) (kids 0 body (omega arith), tt))
  depth-over (Ex l s body) kids = omega (arith, deepest-kept (body ∷ []) (kids 0 body (omega arith), tt))

  pub quantified-over : (node : Node) → HasChildrenBelow (length trees) node → is_quantified_over (map facts_of trees) node ≡ is_quantified (node_tree trees node)
  quantified-over (Const i s) kids = refl
  quantified-over (Var l s) kids = refl
  quantified-over (Lit w) kids = refl
  quantified-over (App o ks) kids = quantified-kept ks.items (recursion_from_All _ ks.items kids)
  quantified-over (AllNode l s body) kids = refl
  quantified-over (Ex l s body) kids = refl

  -- the facts that are made for a node
  pub facts-over : (node : Node) (f : Facts) → HasChildrenBelow (length trees) node → IsSorted (node_tree trees node)
      → sort_over (map facts_of trees) node ≡ Some f.sort → f.depth ≡ deepest (map facts_of trees) (children node) + 1 → f.quantified ≡ is_quantified_over (map facts_of trees) node
      → f ≡ facts_of (node_tree trees node)
  facts-over node f kids sorted sort depth quantified =
      let s : f.sort ≡ unwrap_or (tree_sort (node_tree trees node)) BoolSort = sym (ap (λ o. unwrap_or o BoolSort) (sym (sort-over node kids sorted) ∙ sort)) in
      let d : f.depth ≡ depth_of (node_tree trees node) = depth ∙ depth-over node kids in
      let q : f.quantified ≡ is_quantified (node_tree trees node) = quantified ∙ quantified-over node kids in
      λ i. record { sort = s i; depth = d i; quantified = q i }

  -- a tree is no deeper than its number allows
  deep-each : (n : ℕ) (ts : Trees) → ((m : ℕ) → m < n → m < length trees → depth_of (tree_at trees m) ≤ m + 1) → AreBelow trees n ts → depth_of_all ts ≤ n
  deep-each n Nil low h = omega arith
  deep-each n (Cons t ts) low h =
      let rest = deep-each n ts low h.1 in
      let first = low h.0.0 h.0.1 h.0.2.below in
      let same : depth_of t ≡ depth_of (tree_at trees h.0.0) = ap depth_of (sym h.0.2.tree) in
      omega (arith, rest, first, same, h.0.1)

  deep-children : (t : Tree) → depth_of t ≡ 1 + depth_of_all (children_of t)
  deep-children (Rattle.qv_words.specs.Tree.Constant i s) = refl
  deep-children (Rattle.qv_words.specs.Tree.Variable l s) = refl
  deep-children (Literal s v) = refl
  deep-children (Apply o args) = refl
  deep-children (Rattle.qv_words.specs.Tree.ForAll l s body) = omega arith
  deep-children (Rattle.qv_words.specs.Tree.Exists l s body) = omega arith

  deep-below : (bound n : ℕ) → n < bound → n < length trees → depth_of (tree_at trees n) ≤ n + 1
  deep-below zero n h k = absurd (omega (arith, h))
  deep-below (suc bound) n h k =
      let each = deep-each n (children_of (tree_at trees n)) (λ m low within. deep-below bound m (omega (arith, h, low)) within) (shared.children n k) in
      omega (arith, each, deep-children (tree_at trees n))

  pub depth-small : (n : ℕ) → n < length trees → depth_of (tree_at trees n) ≤ n + 1
  depth-small n h = deep-below (suc n) n (omega arith) h

  pub deepest-small : (node : Node) → HasChildrenBelow (length trees) node → deepest (map facts_of trees) (children node) ≤ length trees
  deepest-small node kids = go (children node) (recursion_from_All _ (children node) kids)
    where
      go : (ks : List ℕ) → AllByRecursion (λ n. n < length trees) ks → deepest (map facts_of trees) ks ≤ length trees
      go [] h = omega arith
      go (k ∷ ks) h =
          let first : (facts_at (map facts_of trees) k).depth ≡ depth_of (tree_at trees k) = ap (λ (f : Facts). f.depth) (facts_at-tree trees k h.0) in
          omega (arith, go ks h.1, first, depth-small k h.0, h.0)
