-- Terms that are put into a store.
use Rattle.std.proofs.Common.{◌≡◌, ℕ, zero, suc, ◌+◌, ◌<◌, ◌⊎◌, inl, inr, Bool, true, false, cond, List, [], ◌∷◌, ◌++◌, length, take, get_or, Option, Some, None, refl, ap, subst, sym, ◌∙◌, arith, length-append}
use Rattle.std.specs.Prelude.{All, IfSome, ◌==◌}
use Rattle.std.specs.List.{AllByRecursion}
use Rattle.std.proofs.lemmas.List.Elements.{recursion_from_All, All-push, All-weaker}
use Rattle.qv_words.specs.declared.sort.Sort.{Sort}
use Rattle.qv_words.specs.Tree.{Tree, Trees, Constant, Variable, Literal, Apply, ForAll, Exists, Nil, Cons}
use Rattle.qv_words.specs.Sorted.{IsSorted, IsSortedBelow, AreSortedBelow, with_level, no_levels}
use Rattle.qv_terms.specs.declared.term.Term.{Term}
use Rattle.qv_terms.specs.View.{tree, trees}
use Rattle.qv_store.specs.Nodes.{tree_at, trees_at}
use Rattle.qv_store.specs.Stores.{StandsAt, Grows}
use Rattle.qv_store.proofs.Standing.{trees_at-before}
use Rattle.qv_trees.specs.Planted.{ArePlanted}
use Rattle.qv_trees.proofs.Grown.{trees_at-append, trees_push, then}

-- fewer levels have a sort
abbrev pub IsWeaker : (ℕ → Option Sort) → (ℕ → Option Sort) → Type 0
IsWeaker levels fewer = (l : ℕ) → (fewer l ≡ None) ⊎ (fewer l ≡ levels l)

weaker-with : (levels fewer : ℕ → Option Sort) (l : ℕ) (s : Sort) → IsWeaker levels fewer → IsWeaker (with_level levels l s) (with_level fewer l s)
weaker-with levels fewer l s h k = by (k == l) (h k)
  where
    by : (b : Bool) → (fewer k ≡ None) ⊎ (fewer k ≡ levels k) → (cond b (Some s) (fewer k) ≡ None) ⊎ (cond b (Some s) (fewer k) ≡ cond b (Some s) (levels k))
    by true e = inr refl
    by false e = e

weaker-variable : (o p : Option Sort) (s : Sort) → (p ≡ None) ⊎ (p ≡ o) → IfSome o (λ bound. s ≡ bound) → IfSome p (λ bound. s ≡ bound)
weaker-variable o p s (inl e) h = subst (λ (q : Option Sort). IfSome q (λ bound. s ≡ bound)) (sym e) tt
weaker-variable o p s (inr e) h = subst (λ (q : Option Sort). IfSome q (λ bound. s ≡ bound)) (sym e) h

-- a tree that is sorted below some levels is so below fewer
mutual
  pub sorted-weaker : (t : Tree) (levels fewer : ℕ → Option Sort) → IsWeaker levels fewer → IsSortedBelow levels t → IsSortedBelow fewer t
  sorted-weaker (Constant i s) levels fewer w h = h
  sorted-weaker (Variable l s) levels fewer w h = (h.0, weaker-variable (levels l) (fewer l) s (w l) h.1)
  sorted-weaker (Literal s n) levels fewer w h = h
  sorted-weaker (Apply o args) levels fewer w h = (sorted-weaker_each args levels fewer w h.0, h.1)
  sorted-weaker (ForAll l s body) levels fewer w h = (h.0, sorted-weaker body (with_level levels l s) (with_level fewer l s) (weaker-with levels fewer l s w) h.1, h.2)
  sorted-weaker (Exists l s body) levels fewer w h = (h.0, sorted-weaker body (with_level levels l s) (with_level fewer l s) (weaker-with levels fewer l s w) h.1, h.2)

  sorted-weaker_each : (ts : Trees) (levels fewer : ℕ → Option Sort) → IsWeaker levels fewer → AreSortedBelow levels ts → AreSortedBelow fewer ts
  sorted-weaker_each Nil levels fewer w h = tt
  sorted-weaker_each (Cons t ts) levels fewer w h = (sorted-weaker t levels fewer w h.0, sorted-weaker_each ts levels fewer w h.1)

pub body-sorted : (t : Tree) (levels : ℕ → Option Sort) → IsSortedBelow levels t → IsSorted t
body-sorted t levels h = sorted-weaker t levels no_levels (λ l. inl refl) h

-- the term of a list is sorted where all are
pub sorted-at : (ts : List Term) (i : ℕ) (t : Term) → i < length ts → t ≡ get_or ts i t → AreSortedBelow no_levels (trees ts) → IsSorted (tree t)
sorted-at [] i t h at s = absurd (omega (arith, h))
sorted-at (u ∷ ts) zero t h at s = subst (λ (v : Term). IsSorted (tree v)) (sym at) s.0
sorted-at (u ∷ ts) (suc i) t h at s = sorted-at ts i t (omega (arith, h)) at s.1

-- one term more is planted
pub planted-push : (old new : List Tree) (ids : List ℕ) (ts : List Term) (i id : ℕ) (t : Term) → ArePlanted old ids (trees (take i ts)) → Grows old new → i < length ts → t ≡ get_or ts i t → StandsAt new id (tree t)
    → ArePlanted new (ids ++ id ∷ []) (trees (take (i + 1) ts))
planted-push old new ids ts i id t planted grows h at own =
    let more : length new ≡ length old + length grows.more = ap length grows.behind ∙ length-append old grows.more in
    let kept : trees_at new ids ≡ trees_at old ids = ap (λ s. trees_at s ids) grows.behind ∙ trees_at-before old grows.more ids (recursion_from_All _ ids planted.within) in
    record {
      within = All-push (λ k. k < length new) ids id (All-weaker (λ k. k < length old) (λ k. k < length new) (λ k low. omega (arith, low, more)) ids planted.within) own.below;
      trees = trees_at-append new ids (id ∷ []) ∙ ap (λ us. then us (Cons (tree_at new id) Nil)) (kept ∙ planted.trees) ∙ ap (λ u. then (trees (take i ts)) (Cons u Nil)) own.tree
          ∙ sym (trees_push ts i t h at);
    }
