-- Nodes and terms by their places.
use Rattle.std.proofs.Common.{◌≡◌, ℕ, ◌+◌, ◌<◌, List, [], ◌∷◌, ◌++◌, length, length-take-le, get_or, slice_get, take, Some, refl, ap, subst, sym, ◌∙◌, arith}
use Rattle.std.specs.Prelude.{All}
use Rattle.std.specs.List.{AllByRecursion, AllZip}
use Rattle.std.proofs.lemmas.List.{length-map}
use Rattle.std.proofs.lemmas.List.Elements.{All-from_recursion}
use Rattle.std.proofs.lemmas.Option.{slice_get-get_or, slice_get_within}
use Rattle.std.proofs.lemmas.List.{take_more}
use Rattle.qv_words.specs.Tree.{Tree}
use Rattle.qv_words.proofs.Elements.{zip-append}
use Rattle.qv_store.specs.declared.node.Node.{Node}
use Rattle.qv_store.specs.Nodes.{tree_at, trees_at, children, node_tree, HasChildrenBelow}
use Rattle.qv_store.specs.Stores.{AreShared, with_tree}
use Rattle.qv_store.specs.Walks.{named, IsWalk, IsEarlier}
use Rattle.qv_store.specs.Replacing.{top_over}
use Rattle.qv_store.proofs.Copying.{IsCopied, copied-next}
use Rattle.qv_store.proofs.Passes.{named-at, walk-kids}
use Rattle.qv_trees.specs.Places.{IsPlaceOf, IsRenumbered}
use Rattle.qv_store.proofs.Replacement.{top-of}

-- one place more
pub place-push : (walk : List ℕ) (n : ℕ) (ids new : List ℕ) (i id place : ℕ) → AllZip (IsPlaceOf walk n) (take i ids) new → i < length ids → id ≡ get_or ids i id → IsPlaceOf walk n id place
    → AllZip (IsPlaceOf walk n) (take (i + 1) ids) (new ++ place ∷ [])
place-push walk n ids new i id place so h at own =
    let next : take (i + 1) ids ≡ take i ids ++ id ∷ [] = take_more ids i id h ∙ ap (λ k. take i ids ++ k ∷ []) (sym at) in
    subst (λ ks. AllZip (IsPlaceOf walk n) ks (new ++ place ∷ [])) (sym next) (zip-append (IsPlaceOf walk n) (take i ids) (id ∷ []) new (place ∷ []) so (own, tt))

module _ (trees : List Tree) (walk : List ℕ) (n : ℕ) where
  -- the trees at the places are those of the terms
  places-trees : (kids new : List ℕ) → AllZip (IsPlaceOf walk n) kids new → trees_at (named trees walk) new ≡ trees_at trees kids
  places-trees [] [] h = refl
  places-trees [] (p ∷ ps) h = absurd h
  places-trees (k ∷ ks) [] h = absurd h
  places-trees (k ∷ ks) (p ∷ ps) h =
      let first : tree_at (named trees walk) p ≡ tree_at trees k = named-at trees walk p k h.0.at in
      let rest : trees_at (named trees walk) ps ≡ trees_at trees ks = places-trees ks ps h.1 in
      cc

  pub places-named : (ids new : List ℕ) → AllZip (IsPlaceOf walk n) ids new → named (named trees walk) new ≡ named trees ids
  places-named [] [] h = refl
  places-named [] (p ∷ ps) h = absurd h
  places-named (k ∷ ks) [] h = absurd h
  places-named (k ∷ ks) (p ∷ ps) h =
      let first : tree_at (named trees walk) p ≡ tree_at trees k = named-at trees walk p k h.0.at in
      let rest : named (named trees walk) ps ≡ named trees ks = places-named ks ps h.1 in
      cc

  places-low : (ids new : List ℕ) → AllZip (IsPlaceOf walk n) ids new → AllByRecursion (λ p. p < n) new
  places-low [] [] h = tt
  places-low [] (p ∷ ps) h = absurd h
  places-low (k ∷ ks) [] h = tt
  places-low (k ∷ ks) (p ∷ ps) h = (h.0.below, places-low ks ps h.1)

  pub places-below : (ids new : List ℕ) → AllZip (IsPlaceOf walk n) ids new → All (λ p. p < n) new
  places-below ids new h = All-from_recursion (λ p. p < n) new (places-low ids new h)

-- the next term of a walk, over those that are copied
module _ (trees : List Tree) (walk : List ℕ) (n id : ℕ) (shared : AreShared trees) (walks : IsWalk trees walk) (at : slice_get walk n ≡ Some id) where
  pub next-kids : (node : Node) → node_tree trees node ≡ tree_at trees id → HasChildrenBelow id node → All (IsEarlier walk n) (children node)
  next-kids node tree kids = All-from_recursion (IsEarlier walk n) (children node) (walk-kids trees walk shared walks n id node at tree kids)

  pub next-copied : (copied : List Tree) (node new : Node) → copied ≡ take n (named trees walk) → node_tree trees node ≡ tree_at trees id → IsRenumbered walk n node new → IsCopied (named trees walk) copied n new
  next-copied copied node new so tree renumbered =
      let within : n < length (named trees walk) = omega (arith, slice_get_within walk n id at, length-map walk (tree_at trees)) in
      let over : node_tree (named trees walk) new ≡ tree_at (named trees walk) n =
      renumbered.tree (named trees walk) ∙ ap (top_over node) (places-trees trees walk n (children node) (children new) renumbered.places) ∙ sym (top-of trees node) ∙ tree ∙ sym (named-at trees walk n id at) in
      copied-next (named trees walk) walks.shared n within copied new new so over (places-below trees walk n (children node) (children new) renumbered.places) (record { children = refl; tree = λ ts. refl })

-- the loop over the terms of a walk
module _ (trees copied : List Tree) (walk items : List ℕ) (i id : ℕ) (same : items ≡ walk) (so : copied ≡ take i (named trees walk)) (h : i < length items) (is : id ≡ get_or items i id)
    (shared : AreShared trees) (walks : IsWalk trees walk) where
  long : length copied ≡ i
  long = ap length so ∙ length-take-le i (named trees walk) (omega (arith, h, ap length same, length-map walk (tree_at trees)))

  here : slice_get walk (length copied) ≡ Some id
  here = ap (slice_get walk) long ∙ ap (λ ids. slice_get ids i) (sym same) ∙ slice_get-get_or items i id h ∙ ap Some (sym is)

  pub loop-kids : (node : Node) → node_tree trees node ≡ tree_at trees id → HasChildrenBelow id node → All (IsEarlier walk (length copied)) (children node)
  loop-kids = next-kids trees walk (length copied) id shared walks here

  pub loop-copied : (node new : Node) → node_tree trees node ≡ tree_at trees id → IsRenumbered walk (length copied) node new → IsCopied (named trees walk) copied (length copied) new
  loop-copied node new = next-copied trees walk (length copied) id shared walks here copied node new (so ∙ ap (λ k. take k (named trees walk)) (sym long))

  pub loop-put : (node new : Node) (after : List Tree) → node_tree trees node ≡ tree_at trees id → IsRenumbered walk (length copied) node new → after ≡ with_tree copied (node_tree copied new)
      → after ≡ take (i + 1) (named trees walk)
  loop-put node new after tree renumbered put = put ∙ (loop-copied node new tree renumbered).next ∙ ap (λ k. take (k + 1) (named trees walk)) long
