-- Stores with one tree more.
use Rattle.std.proofs.Common.{◌≡◌, ℕ, zero, suc, ◌<◌, ◌≤◌, ◌⊎◌, inl, inr, Bool, true, false, ◌||◌, List, [], ◌∷◌, ◌++◌, length, slice_get, Some, refl, ap, subst, sym, ◌∙◌, arith, length-append}
use Rattle.std.specs.List.{AllByRecursion, list_any}
use Rattle.std.proofs.lemmas.Bool.{cases_lt}
use Rattle.std.proofs.lemmas.List.Elements.{recursion_from_All}
use Rattle.qv_words.specs.Tree.{Tree, Trees, Nil, Cons}
use Rattle.qv_words.specs.Sorted.{IsSorted}
use Rattle.qv_words.specs.Equality.{tree_eq}
use Rattle.qv_words.specs.Clauses.{is_among}
use Rattle.qv_words.proofs.Equals.{tree_eq-refl, tree_eq-is}
use Rattle.qv_store.specs.declared.node.Node.{Node}
use Rattle.qv_store.specs.declared.node.Node.TheVariants.{Const, Var, Lit, App, Ex}
use Rattle.qv_store.specs.declared.node.Node.TheVariants.{All as AllNode}
use Rattle.qv_store.specs.Nodes.{tree_at, trees_at, children, node_tree, HasChildrenBelow}
use Rattle.qv_store.specs.Stores.{StandsAt, AreBelow, children_of, AreShared}
use Rattle.qv_store.proofs.Standing.{tree_at-before, tree_at-last}
use Rattle.qv_store.proofs.Growing.{length-push}

-- a test that some element passes
any-of : {X : Type 0} (test : X → Bool) (x : X) (xs : List X) → (test x ≡ true) ⊎ (list_any test xs ≡ true) → list_any test (x ∷ xs) ≡ true
any-of test x xs (inl h) = ap (λ b. b || list_any test xs) h
any-of test x xs (inr h) = by (test x)
  where
    by : (b : Bool) → (b || list_any test xs) ≡ true
    by true = refl
    by false = h

any-parts : {X : Type 0} (test : X → Bool) (x : X) (xs : List X) → list_any test (x ∷ xs) ≡ true → (test x ≡ true) ⊎ (list_any test xs ≡ true)
any-parts test x xs = by (test x)
  where
    by : (b : Bool) → (b || list_any test xs) ≡ true → (b ≡ true) ⊎ (list_any test xs ≡ true)
    by true h = inl refl
    by false h = inr h

-- where none passes, the one at a place doesn't
pub none-at : {X : Type 0} (test : X → Bool) (xs : List X) (n : ℕ) (x : X) → list_any test xs ≡ false → slice_get xs n ≡ Some x → test x ≡ true → ⊥
none-at test [] n x none at h = absurd (cc)
none-at test (y ∷ xs) zero x none at h =
    let same : y ≡ x = cc in
    let first = any-of test y xs (inl (ap test same ∙ h)) in
    absurd (cc)
none-at test (y ∷ xs) (suc n) x none at h = none-at test xs n x (rest (test y) none) at h
  where
    rest : (b : Bool) → (b || list_any test xs) ≡ false → list_any test xs ≡ false
    rest true e = absurd (cc)
    rest false e = e

-- a tree that stands at a number is among the trees, and the other way round
pub among-at : (trees : List Tree) (t : Tree) (n : ℕ) → StandsAt trees n t → is_among trees t ≡ true
among-at [] t n at = absurd (omega (arith, at.below))
among-at (u ∷ trees) t zero at = any-of (tree_eq t) u trees (inl (ap (tree_eq t) at.tree ∙ tree_eq-refl t))
among-at (u ∷ trees) t (suc n) at =
    any-of (tree_eq t) u trees (inr (among-at trees t n (record { below = omega (arith, at.below); tree = at.tree })))

pub at-among : (trees : List Tree) (t : Tree) → is_among trees t ≡ true → (n : ℕ) × StandsAt trees n t
at-among [] t h = absurd (cc)
at-among (u ∷ trees) t h = by (any-parts (tree_eq t) u trees h) (at-among trees t)
  where
    by : (tree_eq t u ≡ true) ⊎ (is_among trees t ≡ true) → (is_among trees t ≡ true → (n : ℕ) × StandsAt trees n t) → (n : ℕ) × StandsAt (u ∷ trees) n t
    by (inl e) rest = (0, record { below = omega arith; tree = sym (tree_eq-is t u e) })
    by (inr e) rest = let at = rest e in (suc at.0, record { below = omega (arith, at.1.below); tree = at.1.tree })

-- what stands below stays
pub stands-before : (xs ys : List Tree) (n : ℕ) (t : Tree) → StandsAt xs n t → StandsAt (xs ++ ys) n t
stands-before xs ys n t at = record { below = omega (arith, at.below, length-append xs ys); tree = tree_at-before xs ys n at.below ∙ at.tree }

below-before : (xs ys : List Tree) (n : ℕ) (ts : Trees) → AreBelow xs n ts → AreBelow (xs ++ ys) n ts
below-before xs ys n Nil h = tt
below-before xs ys n (Cons t ts) h = ((h.0.0, h.0.1, stands-before xs ys h.0.0 t h.0.2), below-before xs ys n ts h.1)

-- the children of a node's tree
pub node-children : (trees : List Tree) (node : Node) → children_of (node_tree trees node) ≡ trees_at trees (children node)
node-children trees (Const i s) = refl
node-children trees (Var l s) = refl
node-children trees (Lit w) = refl
node-children trees (App o kids) = refl
node-children trees (AllNode l s body) = refl
node-children trees (Ex l s body) = refl

kids-below : (trees : List Tree) (n : ℕ) (kids : List ℕ) → n ≤ length trees → AllByRecursion (λ k. k < n) kids → AreBelow trees n (trees_at trees kids)
kids-below trees n [] within h = tt
kids-below trees n (k ∷ ks) within h = ((k, h.0, record { below = omega (arith, h.0, within); tree = refl }), kids-below trees n ks within h.1)

-- a store with a new tree behind its children
module _ (trees : List Tree) (t : Tree) (shared : AreShared trees) (kids : AreBelow trees (length trees) (children_of t))
    (sorted : IsSorted t) (new : is_among trees t ≡ false) where
  abbrev longer : List Tree
  longer = trees ++ t ∷ []

  last-or_before : (n : ℕ) → n < length longer → (n < length trees) ⊎ (n ≡ length trees)
  last-or_before n h = by (cases_lt n (length trees))
    where
      by : (n < length trees) ⊎ (length trees ≤ n) → (n < length trees) ⊎ (n ≡ length trees)
      by (inl low) = inl low
      by (inr high) = inr (omega (arith, h, high, length-push trees t))

  before : (n : ℕ) → n < length trees → tree_at longer n ≡ tree_at trees n
  before n h = tree_at-before trees (t ∷ []) n h

  last : (n : ℕ) → n ≡ length trees → tree_at longer n ≡ t
  last n e = ap (tree_at longer) e ∙ tree_at-last trees t

  fresh : (n : ℕ) → n < length trees → tree_at trees n ≡ t → ⊥
  fresh n h e = let there = among-at trees t n (record { below = h; tree = e }) in absurd (cc)

  pub shared-with : AreShared longer
  shared-with = record { sorted = each; once = apart; children = low }
    where
      each : (n : ℕ) → n < length longer → IsSorted (tree_at longer n)
      each n h = by (last-or_before n h)
        where
          by : (n < length trees) ⊎ (n ≡ length trees) → IsSorted (tree_at longer n)
          by (inl k) = subst IsSorted (sym (before n k)) (shared.sorted n k)
          by (inr e) = subst IsSorted (sym (last n e)) sorted

      apart : (m n : ℕ) → m < length longer → n < length longer → tree_at longer m ≡ tree_at longer n → m ≡ n
      apart m n h k e = by (last-or_before m h) (last-or_before n k)
        where
          by : (m < length trees) ⊎ (m ≡ length trees) → (n < length trees) ⊎ (n ≡ length trees) → m ≡ n
          by (inl p) (inl q) = shared.once m n p q (sym (before m p) ∙ e ∙ before n q)
          by (inl p) (inr q) = absurd (fresh m p (sym (before m p) ∙ e ∙ last n q))
          by (inr p) (inl q) = absurd (fresh n q (sym (before n q) ∙ sym e ∙ last m p))
          by (inr p) (inr q) = p ∙ sym q

      low : (n : ℕ) → n < length longer → AreBelow longer n (children_of (tree_at longer n))
      low n h = by (last-or_before n h)
        where
          by : (n < length trees) ⊎ (n ≡ length trees) → AreBelow longer n (children_of (tree_at longer n))
          by (inl k) =
              subst (λ u. AreBelow longer n (children_of u)) (sym (before n k))
              (below-before trees (t ∷ []) n (children_of (tree_at trees n)) (shared.children n k))
          by (inr e) =
              let there = below-before trees (t ∷ []) (length trees) (children_of t) kids in
              subst (λ u. AreBelow longer n (children_of u)) (sym (last n e)) (subst (λ k. AreBelow longer k (children_of t)) (sym e) there)

-- the same of the tree of a node over the store
pub shared-push : (trees : List Tree) (node : Node) → AreShared trees → HasChildrenBelow (length trees) node → IsSorted (node_tree trees node)
    → is_among trees (node_tree trees node) ≡ false → AreShared (trees ++ node_tree trees node ∷ [])
shared-push trees node shared kids sorted new =
    let here = kids-below trees (length trees) (children node) (omega arith) (recursion_from_All _ (children node) kids) in
    shared-with trees (node_tree trees node) shared (subst (AreBelow trees (length trees)) (sym (node-children trees node)) here) sorted new
