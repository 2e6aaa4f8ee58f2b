-- Passes over the terms of a walk.
use Rattle.std.proofs.Common.{◌≡◌, ℕ, ◌<◌, ◌≤◌, Bool, true, false, cond, List, [], ◌∷◌, ◌++◌, length, get_or, slice_get, Contains, Some, ap, subst, sym, ◌∙◌, arith}
use Rattle.std.specs.List.{AllByRecursion}
use Rattle.std.proofs.lemmas.List.{get_or-map, length-map}
use Rattle.std.proofs.lemmas.List.Elements.{recursion_from_All}
use Rattle.std.proofs.lemmas.Option.{slice_get-get_or, get_or_from_slice_get, slice_get_within}
use Rattle.qv_words.specs.declared.sort.Sort.TheVariants.{Bool as BoolSort}
use Rattle.qv_words.specs.Tree.{Tree, Trees, Constant, Variable, Literal, Apply, ForAll, Exists, Nil, Cons}
use Rattle.qv_words.specs.Clauses.{is_among}
use Rattle.qv_words.proofs.Leaves.{both}
use Rattle.qv_words.proofs.Elements.{all-at}
use Rattle.qv_store.specs.declared.node.Node.{Node}
use Rattle.qv_store.specs.Nodes.{tree_at, trees_at, children, node_tree, HasChildrenBelow}
use Rattle.qv_store.specs.Stores.{AreBelow, AreShared, children_of}
use Rattle.qv_store.specs.Walks.{with_subtrees, with_subtrees_of, named, IsWalk, IsEarlier}
use Rattle.qv_store.proofs.Sharing.{node-children, at-among}
use Rattle.qv_store.proofs.Subtrees.{seen-itself}

-- the tree at a place of a walk
pub named-at : (trees : List Tree) (ids : List ℕ) (i n : ℕ) → slice_get ids i ≡ Some n → tree_at (named trees ids) i ≡ tree_at trees n
named-at trees ids i n at =
    let within : i < length ids = slice_get_within ids i n at in
    get_or-map (tree_at trees) ids i 0 (Literal BoolSort 0) within ∙ ap (tree_at trees) (get_or_from_slice_get ids i n 0 at)

-- the number of a tree of a walk
module _ (trees : List Tree) (ids : List ℕ) (shared : AreShared trees) (walk : IsWalk trees ids) where
  pub walk-within : (i n : ℕ) → slice_get ids i ≡ Some n → n < length trees
  walk-within i n at = all-at (λ k. k < length trees) ids i n (recursion_from_All _ ids walk.within) at

  number-at : (i n : ℕ) → i < length ids → n < length trees → tree_at (named trees ids) i ≡ tree_at trees n → slice_get ids i ≡ Some n
  number-at i n h low e =
      let here : slice_get ids i ≡ Some (get_or ids i 0) = slice_get-get_or ids i 0 h in
      let within = walk-within i (get_or ids i 0) here in
      let same : get_or ids i 0 ≡ n = shared.once (get_or ids i 0) n within low (sym (named-at trees ids i (get_or ids i 0) here) ∙ e) in
      here ∙ ap Some same

  kids-earlier : (i : ℕ) (kids : List ℕ) → i ≤ length ids → AllByRecursion (λ k. k < length trees) kids → AreBelow (named trees ids) i (trees_at trees kids) → AllByRecursion (IsEarlier ids i) kids
  kids-earlier i [] h low below = tt
  kids-earlier i (k ∷ ks) h low below =
      let place = below.0.0 in
      let at = number-at place k (omega (arith, below.0.1, h)) low.0 below.0.2.tree in
      (record { place = place; before = below.0.1; at = at }, kids-earlier i ks h low.1 below.1)

  -- the children of a term of a walk stand earlier
  pub walk-kids : (i n : ℕ) (node : Node) → slice_get ids i ≡ Some n → node_tree trees node ≡ tree_at trees n → HasChildrenBelow n node → AllByRecursion (IsEarlier ids i) (children node)
  walk-kids i n node at tree kids =
      let within = slice_get_within ids i n at in
      let long = length-map ids (tree_at trees) in
      let below = walk.shared.children i (omega (arith, within, long)) in
      let own : children_of (tree_at (named trees ids) i) ≡ trees_at trees (children node) = ap children_of (named-at trees ids i n at ∙ sym tree) ∙ node-children trees node in
      let low : AllByRecursion (λ k. k < length trees) (children node) = recursion_from_All _ (children node) (λ k d h. omega (arith, kids k d h, walk-within i n at)) in
      kids-earlier i (children node) (omega (arith, within)) low (subst (AreBelow (named trees ids) i) own below)

  -- the term from which a walk comes is in it
  pub walk-has : (seen : List Tree) (n : ℕ) → n < length trees → named trees ids ≡ with_subtrees seen (tree_at trees n) → IsEarlier ids (length ids) n
  walk-has seen n low order =
      let there = at-among (named trees ids) (tree_at trees n) (ap (λ ts. is_among ts (tree_at trees n)) order ∙ seen-itself seen (tree_at trees n)) in
      let within : there.0 < length ids = omega (arith, there.1.below, length-map ids (tree_at trees)) in
      record { place = there.0; before = within; at = number-at there.0 n within low there.1.tree }

-- what holds of each of a list of trees
abbrev pub EachTree : (Tree → Type 0) → Trees → Type 0
EachTree P Nil = Unit {0}
EachTree P (Cons t ts) = P t × EachTree P ts

-- what a tree's children inherit holds of all its subtrees
module _ (P : Tree → Type 0) (inherit : (t : Tree) → P t → EachTree P (children_of t)) where
  with-one : (seen found : List Tree) (t : Tree) (b : Bool) → AllByRecursion P seen → AllByRecursion P found → P t → AllByRecursion P (cond b seen (found ++ t ∷ []))
  with-one seen found t true s f p = s
  with-one seen found t false s f p = both P found (t ∷ []) f (p, tt)

  mutual
    pub each-subtree : (seen : List Tree) (t : Tree) → AllByRecursion P seen → P t → AllByRecursion P (with_subtrees seen t)
    each-subtree seen (Constant i s) h p = with-one seen seen (Constant i s) (is_among seen (Constant i s)) h h p
    each-subtree seen (Variable l s) h p = with-one seen seen (Variable l s) (is_among seen (Variable l s)) h h p
    each-subtree seen (Literal s n) h p = with-one seen seen (Literal s n) (is_among seen (Literal s n)) h h p
    each-subtree seen (Apply o args) h p =
        with-one seen (with_subtrees_of seen args) (Apply o args) (is_among seen (Apply o args)) h (each-subtree_of seen args h (inherit (Apply o args) p)) p
    each-subtree seen (ForAll l s body) h p =
        with-one seen (with_subtrees seen body) (ForAll l s body) (is_among seen (ForAll l s body)) h (each-subtree seen body h (inherit (ForAll l s body) p).0) p
    each-subtree seen (Exists l s body) h p =
        with-one seen (with_subtrees seen body) (Exists l s body) (is_among seen (Exists l s body)) h (each-subtree seen body h (inherit (Exists l s body) p).0) p

    each-subtree_of : (seen : List Tree) (ts : Trees) → AllByRecursion P seen → EachTree P ts → AllByRecursion P (with_subtrees_of seen ts)
    each-subtree_of seen Nil h p = h
    each-subtree_of seen (Cons t ts) h p = each-subtree_of (with_subtrees seen t) ts (each-subtree seen t h p.0) p.1

  -- so of each term of a walk that begins with nothing
  pub each-of-walk : (trees : List Tree) (ids : List ℕ) (n : ℕ) → named trees ids ≡ with_subtrees [] (tree_at trees n) → P (tree_at trees n)
      → (i k : ℕ) → slice_get ids i ≡ Some k → P (tree_at trees k)
  each-of-walk trees ids n order p i k at =
      let all : AllByRecursion P (named trees ids) = subst (AllByRecursion P) (sym order) (each-subtree [] (tree_at trees n) tt p) in
      let within : i < length (named trees ids) = omega (arith, slice_get_within ids i k at, length-map ids (tree_at trees)) in
      let here : slice_get (named trees ids) i ≡ Some (tree_at (named trees ids) i) = slice_get-get_or (named trees ids) i (Literal BoolSort 0) within in
      subst P (named-at trees ids i k at) (all-at P (named trees ids) i (tree_at (named trees ids) i) all here)

-- the same as to be contained
pub earlier-contains : (ids : List ℕ) (n : ℕ) → IsEarlier ids (length ids) n → Contains ids n
earlier-contains ids n h = (h.place, h.before, get_or_from_slice_get ids h.place n n h.at)

pub contains-earlier : (ids : List ℕ) (n : ℕ) → Contains ids n → IsEarlier ids (length ids) n
contains-earlier ids n h = record { place = h.0; before = h.1; at = slice_get-get_or ids h.0 n h.1 ∙ ap Some h.2 }

pub earlier-in : (ids : List ℕ) (m n k : ℕ) → m ≤ n → IsEarlier ids m k → IsEarlier ids n k
earlier-in ids m n k h e = record { place = e.place; before = omega (arith, e.before, h); at = e.at }
