-- Sorted trees below other levels.
use Rattle.std.proofs.Common.{◌≡◌, ℕ, ◌⊎◌, inl, inr, Bool, true, false, List, Option, None, refl, subst, sym, ◌∙◌}
use Rattle.std.specs.Prelude.{◌==◌, IfSome}
use Rattle.std.specs.List.{AllByRecursion}
use Rattle.qv_words.specs.declared.sort.Sort.{Sort}
use Rattle.qv_words.specs.Tree.{Tree, Trees, Constant, Variable, Literal, Apply, ForAll, Exists, Nil, Cons}
use Rattle.qv_words.specs.Sorted.{IsSorted, IsSortedBelow, AreSortedBelow, with_level, no_levels, but_level, free_levels, free_levels_of_all}
use Rattle.qv_words.proofs.Leaves.{front, back, below, at_level, past_level}
use Rattle.qv_words.proofs.Elements.{all-of}

-- a map of levels has nothing for a variable, or what another has
abbrev pub IsKept : (ℕ → Option Sort) → (ℕ → Option Sort) → ℕ × Sort → Type 0
IsKept M N leaf = (N leaf.0 ≡ None) ⊎ (N leaf.0 ≡ M leaf.0)

kept-variable : (o p : Option Sort) (s : Sort) → (p ≡ None) ⊎ (p ≡ o) → IfSome o (λ bound. s ≡ bound) → IfSome p (λ bound. s ≡ bound)
kept-variable o p s (inl e) h = subst (λ (q : Option Sort). IfSome q (λ bound. s ≡ bound)) (sym e) tt
kept-variable o p s (inr e) h = subst (λ (q : Option Sort). IfSome q (λ bound. s ≡ bound)) (sym e) h

kept-below : (M N : ℕ → Option Sort) (l : ℕ) (s : Sort) (leaves : List (ℕ × Sort)) → AllByRecursion (IsKept M N) (but_level l leaves) → AllByRecursion (IsKept (with_level M l s) (with_level N l s)) leaves
kept-below M N l s leaves h =
    below (IsKept M N) (IsKept (with_level M l s) (with_level N l s)) (λ _. Unit {0}) l leaves
    (λ p _ e. inr (at_level N l s p.0 e ∙ sym (at_level M l s p.0 e)))
    (λ p _ e k. other p e k)
    (all-of (λ _. Unit {0}) leaves (λ _. tt)) h
  where
    other : (p : ℕ × Sort) → (p.0 == l) ≡ false → IsKept M N p → IsKept (with_level M l s) (with_level N l s) p
    other p e (inl k) = inl (past_level N l s p.0 e ∙ k)
    other p e (inr k) = inr (past_level N l s p.0 e ∙ k ∙ sym (past_level M l s p.0 e))

-- a sorted tree is sorted below levels that keep its free variables
mutual
  pub sorted-kept : (t : Tree) (M N : ℕ → Option Sort) → AllByRecursion (IsKept M N) (free_levels t) → IsSortedBelow M t → IsSortedBelow N t
  sorted-kept (Constant i s) M N w h = h
  sorted-kept (Variable l s) M N w h = (h.0, kept-variable (M l) (N l) s w.0 h.1)
  sorted-kept (Literal s n) M N w h = h
  sorted-kept (Apply o ts) M N w h = (sorted-kept_each ts M N w h.0, h.1)
  sorted-kept (ForAll l s body) M N w h = (h.0, sorted-kept body (with_level M l s) (with_level N l s) (kept-below M N l s (free_levels body) w) h.1, h.2)
  sorted-kept (Exists l s body) M N w h = (h.0, sorted-kept body (with_level M l s) (with_level N l s) (kept-below M N l s (free_levels body) w) h.1, h.2)

  sorted-kept_each : (ts : Trees) (M N : ℕ → Option Sort) → AllByRecursion (IsKept M N) (free_levels_of_all ts) → AreSortedBelow M ts → AreSortedBelow N ts
  sorted-kept_each Nil M N w h = tt
  sorted-kept_each (Cons t ts) M N w h = (
    sorted-kept t M N (front (IsKept M N) (free_levels t) (free_levels_of_all ts) w) h.0,
    sorted-kept_each ts M N (back (IsKept M N) (free_levels t) (free_levels_of_all ts) w) h.1,
  )

pub sorted-alone : (t : Tree) (M : ℕ → Option Sort) → IsSortedBelow M t → IsSorted t
sorted-alone t M h = sorted-kept t M no_levels (all-of (IsKept M no_levels) (free_levels t) (λ _. inl refl)) h
