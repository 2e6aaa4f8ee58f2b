-- Facts about the leaves of a tree and the variables that a quantifier binds.
use Rattle.std.proofs.Common.{◌≡◌, ℕ, ◌==◌, Bool, true, false, cond, not, Option, Some, List, [], ◌∷◌, ◌++◌, refl, sym, ◌∙◌, ap, subst}
use Rattle.std.specs.List.{AllByRecursion}
use Rattle.std.specs.Prelude.{IfSome, IsSomeAnd}
use Rattle.qv_words.specs.declared.sort.Sort.{Sort}
use Rattle.qv_words.specs.Sort.{IsValueOf}
use Rattle.qv_words.specs.Tree.{Tree, Trees, Constant, Variable, Literal, Apply, ForAll, Exists, Nil, Cons}
use Rattle.qv_words.specs.Sorted.{with_level, but_level, free_levels, free_levels_of_all, IsSortedBelow, AreSortedBelow}

-- what holds of each leaf of two lists holds of each leaf of both
pub front : {X : Type 0} (P : X → Type 0) (xs ys : List X) → AllByRecursion P (xs ++ ys) → AllByRecursion P xs
front P [] ys h = tt
front P (x ∷ xs) ys h = (h.0, front P xs ys h.1)

pub back : {X : Type 0} (P : X → Type 0) (xs ys : List X) → AllByRecursion P (xs ++ ys) → AllByRecursion P ys
back P [] ys h = h
back P (x ∷ xs) ys h = back P xs ys h.1

pub both : {X : Type 0} (P : X → Type 0) (xs ys : List X) → AllByRecursion P xs → AllByRecursion P ys → AllByRecursion P (xs ++ ys)
both P [] ys g h = h
both P (x ∷ xs) ys g h = (g.0, both P xs ys g.1 h)

-- what holds of the leaves below a quantifier, from what holds of those that it leaves free
pub below : (P Q S : ℕ × Sort → Type 0) (l : ℕ) (xs : List (ℕ × Sort)) → ((p : ℕ × Sort) → S p → (p.0 == l) ≡ true → Q p) → ((p : ℕ × Sort) → S p → (p.0 == l) ≡ false → P p → Q p) → AllByRecursion S xs → AllByRecursion P (but_level l xs) → AllByRecursion Q xs
below P Q S l [] at others s h = tt
below P Q S l (p ∷ xs) at others s h =
    go (p.0 == l) refl (λ r. below P Q S l xs at others s.1 r) h
  where
    go : (b : Bool) → (p.0 == l) ≡ b → (AllByRecursion P (but_level l xs) → AllByRecursion Q xs) → AllByRecursion P (cond (not b) (p ∷ but_level l xs) (but_level l xs)) → AllByRecursion Q (p ∷ xs)
    go true e rest k = (at p s.0 e, rest k)
    go false e rest k = (others p s.0 e k.0, rest k.1)

-- what holds of the leaves that a quantifier leaves free, from what holds of those below it
pub above : (P S : ℕ × Sort → Type 0) (l : ℕ) (xs : List (ℕ × Sort)) → ((p : ℕ × Sort) → (p.0 == l) ≡ false → S p → P p) → AllByRecursion S xs → AllByRecursion P (but_level l xs)
above P S l [] others s = tt
above P S l (p ∷ xs) others s =
    go (p.0 == l) refl (above P S l xs others s.1)
  where
    go : (b : Bool) → (p.0 == l) ≡ b → AllByRecursion P (but_level l xs) → AllByRecursion P (cond (not b) (p ∷ but_level l xs) (but_level l xs))
    go true e rest = rest
    go false e rest = (others p e s.0, rest)

-- a map at the level that was set, and at another
pub at_level : {A : Type 0} (e : ℕ → Option A) (l : ℕ) (x : A) (k : ℕ) → (k == l) ≡ true → with_level e l x k ≡ Some x
at_level e l x k h = ap (λ b. cond b (Some x) (e k)) h

pub past_level : {A : Type 0} (e : ℕ → Option A) (l : ℕ) (x : A) (k : ℕ) → (k == l) ≡ false → with_level e l x k ≡ e k
past_level e l x k h = ap (λ b. cond b (Some x) (e k)) h

-- the two maps agree at a leaf
abbrev pub Agree : (ℕ → Option ℕ) → (ℕ → Option ℕ) → ℕ × Sort → Type 0
Agree e f leaf = e leaf.0 ≡ f leaf.0

-- so do they where both are set to one value
pub agree_below : (e f : ℕ → Option ℕ) (l u : ℕ) (xs : List (ℕ × Sort)) → AllByRecursion (Agree e f) (but_level l xs) → AllByRecursion (Agree (with_level e l u) (with_level f l u)) xs
agree_below e f l u xs h =
    below (Agree e f) (Agree (with_level e l u) (with_level f l u)) (λ _. Unit {0}) l xs
    (λ p _ k. at_level e l u p.0 k ∙ sym (at_level f l u p.0 k))
    (λ p _ k same. past_level e l u p.0 k ∙ same ∙ sym (past_level f l u p.0 k))
    (all_units xs) h
  where
    all_units : (ys : List (ℕ × Sort)) → AllByRecursion (λ _. Unit {0}) ys
    all_units [] = tt
    all_units (y ∷ ys) = (tt, all_units ys)

-- the variables of a tree have the sorts of the quantifiers that they stand below
abbrev pub HasSortOf : (ℕ → Option Sort) → ℕ × Sort → Type 0
HasSortOf levels leaf = IfSome (levels leaf.0) (λ bound. leaf.1 ≡ bound)

mutual
  pub bound_sorts : (t : Tree) (levels : ℕ → Option Sort) → IsSortedBelow levels t → AllByRecursion (HasSortOf levels) (free_levels t)
  bound_sorts (Constant i s) levels h = tt
  bound_sorts (Variable l s) levels h = (h.1, tt)
  bound_sorts (Literal s n) levels h = tt
  bound_sorts (Apply o args) levels h = bound_sorts_each args levels h.0
  bound_sorts (ForAll l s body) levels h =
      above (HasSortOf levels) (HasSortOf (with_level levels l s)) l (free_levels body)
      (λ p k at. subst (λ (o : Option Sort). IfSome o (λ bound. p.1 ≡ bound)) (past_level levels l s p.0 k) at)
      (bound_sorts body (with_level levels l s) h.1)
  bound_sorts (Exists l s body) levels h =
      above (HasSortOf levels) (HasSortOf (with_level levels l s)) l (free_levels body)
      (λ p k at. subst (λ (o : Option Sort). IfSome o (λ bound. p.1 ≡ bound)) (past_level levels l s p.0 k) at)
      (bound_sorts body (with_level levels l s) h.1)

  pub bound_sorts_each : (ts : Trees) (levels : ℕ → Option Sort) → AreSortedBelow levels ts → AllByRecursion (HasSortOf levels) (free_levels_of_all ts)
  bound_sorts_each Nil levels h = tt
  bound_sorts_each (Cons t ts) levels h =
      both (HasSortOf levels) (free_levels t) (free_levels_of_all ts) (bound_sorts t levels h.0) (bound_sorts_each ts levels h.1)

-- a variable's value is of its sort
abbrev pub HasValue : (ℕ → Option ℕ) → ℕ × Sort → Type 0
HasValue e leaf = IsSomeAnd (e leaf.0) (λ v. IsValueOf v leaf.1)

-- below a quantifier the variables have values, where its own has one of its sort
pub values_below : (e : ℕ → Option ℕ) (levels : ℕ → Option Sort) (l : ℕ) (s : Sort) (u : ℕ) (xs : List (ℕ × Sort)) → IsValueOf u s → AllByRecursion (HasSortOf (with_level levels l s)) xs → AllByRecursion (HasValue e) (but_level l xs) → AllByRecursion (HasValue (with_level e l u)) xs
values_below e levels l s u xs fits sorts h =
    below (HasValue e) (HasValue (with_level e l u)) (HasSortOf (with_level levels l s)) l xs
    (λ p sort k.
    let same : p.1 ≡ s = subst (λ (o : Option Sort). IfSome o (λ bound. p.1 ≡ bound)) (at_level levels l s p.0 k) sort in
    let there : IsSomeAnd (Some u) (λ v. IsValueOf v p.1) = subst (IsValueOf u) (sym same) fits in
    subst (λ (o : Option ℕ). IsSomeAnd o (λ v. IsValueOf v p.1)) (sym (at_level e l u p.0 k)) there)
    (λ p sort k at. subst (λ (o : Option ℕ). IsSomeAnd o (λ v. IsValueOf v p.1)) (sym (past_level e l u p.0 k)) at)
    sorts h
