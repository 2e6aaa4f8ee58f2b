-- The arguments of a use inside a definition's body, with the arguments of a use of that body put in.
use Rattle.std.proofs.Common.{◌≡◌, ◌≤◌, ◌<◌, ◌==◌, ◌⊎◌, inl, inr, ℕ, Bool, true, false, cond, Option, Some, None, List, [], ◌∷◌, length, map, slice_get, refl, sym, ap, ◌∙◌, arith}
use Rattle.std.specs.Prelude.{All, IsSomeAnd, nat_lt, unwrap_or, zip}
use Rattle.std.specs.List.{AllByRecursion}
use Rattle.std.proofs.lemmas.Bool.Decides.{nat_tests}
use Rattle.std.proofs.lemmas.List.{length-map}
use Rattle.std.proofs.lemmas.List.Elements.{recursion_from_All, All-from_recursion}
use Rattle.qv_words.specs.declared.sort.Sort.{Sort}
use Rattle.qv_words.specs.Tree.{Tree, Trees, Constant, Variable, Literal, Apply, ForAll, Exists, Nil, Cons, tree_sort}
use Rattle.qv_words.specs.Sorted.{IsSorted, with_level, free_levels, free_levels_of_all}
use Rattle.qv_words.proofs.Equals.{test-refl, eq-from_test}
use Rattle.qv_words.proofs.Leaves.{both, above, past_level}
use Rattle.qv_words.proofs.Elements.{all-at}
use Rattle.qv_elab_defs.specs.Scopes.{Named}
use Rattle.qv_elab_defs.specs.Applying.{depth_of, depth_limit}
use Rattle.qv_elab_defs.specs.Putting.{moved_level, put_in_each}
use Rattle.qv_elab_defs.specs.UseLaws.{AreArguments}
use Rattle.qv_elab_defs.proofs.Opened.{IsOpen, AreOpen}
use Rattle.qv_elab_defs.proofs.OpenApplied.{IsGood}
use Rattle.qv_elab_defs.proofs.OpenElaborated.{Ends}
use Rattle.qv_elab_defs.proofs.Alike.{Use, put, Begin, begin-level, same-sort}
use Rattle.qv_elab_defs.proofs.PutSorted.{put-is_sorted}

module _ (sorts : List Sort) (u : Use sorts) (low : AllByRecursion (λ t. AllByRecursion (λ leaf. leaf.0 < u.binders) (free_levels t)) u.args) where
  -- a variable of an argument, or one that was moved
  record IsMovedFrom (M : ℕ → Option Sort) (n : ℕ) : Type 0 where
    level : ℕ
    own : length sorts ≤ level
    sort : Sort
    there : M level ≡ Some sort
    is : n ≡ moved_level (length sorts) u.binders level

  abbrev Comes : (ℕ → Option Sort) → ℕ × Sort → Type 0
  Comes M leaf = (leaf.0 < u.binders) ⊎ IsMovedFrom M leaf.0

  of-args : (M : ℕ → Option Sort) (leaves : List (ℕ × Sort)) → AllByRecursion (λ leaf. leaf.0 < u.binders) leaves → AllByRecursion (Comes M) leaves
  of-args M [] h = tt
  of-args M (leaf ∷ leaves) h = (inl h.0, of-args M leaves h.1)

  outside : (M : ℕ → Option Sort) (l : ℕ) (s : Sort) (p : ℕ × Sort) → (p.0 == moved_level (length sorts) u.binders l) ≡ false → Comes (with_level M l s) p → Comes M p
  outside M l s p e (inl h) = inl h
  outside M l s p e (inr h) = go (h.level == l) refl
    where
      go : (b : Bool) → (h.level == l) ≡ b → Comes M p
      go true f =
          let same : h.level ≡ l = eq-from_test h.level l f in
          let at : (p.0 == moved_level (length sorts) u.binders l) ≡ true =
          ap (λ n. n == moved_level (length sorts) u.binders l) (h.is ∙ ap (λ n. moved_level (length sorts) u.binders n) same) ∙ test-refl (moved_level (length sorts) u.binders l) in
          absurd (cc)
      go false f = inr (record { level = h.level; own = h.own; sort = h.sort; there = sym (past_level M l s h.level f) ∙ h.there; is = h.is })

  variable-comes : (M : ℕ → Option Sort) (l : ℕ) (s : Sort) → M l ≡ Some s → Begin sorts M → AllByRecursion (Comes M) (free_levels (put sorts u (Variable l s)))
  variable-comes M l s there begin = go (nat_lt l (length sorts)) refl
    where
      at : (o : Option Tree) → slice_get u.args l ≡ o → IsSomeAnd o (λ a. tree_sort a ≡ Some s) → AllByRecursion (Comes M) (free_levels (unwrap_or o (Variable l s)))
      at None e k = absurd k
      at (Some a) e k = of-args M (free_levels a) (all-at (λ t. AllByRecursion (λ leaf. leaf.0 < u.binders) (free_levels t)) u.args l a low e)

      go : (b : Bool) → nat_lt l (length sorts) ≡ b → AllByRecursion (Comes M) (free_levels (cond b (unwrap_or (slice_get u.args l) (Variable l s)) (Variable (moved_level (length sorts) u.binders l) s)))
      go true e =
          let lt : l < length sorts = grind (arith, nat_tests) in
          at (slice_get u.args l) refl (u.fits l s (sym (begin l lt) ∙ there))
      go false e =
          let le : length sorts ≤ l = grind (arith, nat_tests) in
          (inr (record { level = l; own = le; sort = s; there = there; is = refl }), tt)

  mutual
    comes : (t : Tree) (K : List Sort) (M : ℕ → Option Sort) → Begin sorts M → IsOpen K (length sorts) M t → AllByRecursion (Comes M) (free_levels (put sorts u t))
    comes (Constant i s) K M b h = tt
    comes (Variable l s) K M b h = variable-comes M l s h.1 b
    comes (Literal s n) K M b h = tt
    comes (Apply o ts) K M b h = come ts K M b h.0
    comes (ForAll l s body) K M b h =
        above (Comes M) (Comes (with_level M l s)) (moved_level (length sorts) u.binders l) (free_levels (put sorts u body)) (outside M l s) (comes body K (with_level M l s) (begin-level sorts M l s h.1 b) h.2)
    comes (Exists l s body) K M b h =
        above (Comes M) (Comes (with_level M l s)) (moved_level (length sorts) u.binders l) (free_levels (put sorts u body)) (outside M l s) (comes body K (with_level M l s) (begin-level sorts M l s h.1 b) h.2)

    come : (ts : Trees) (K : List Sort) (M : ℕ → Option Sort) → Begin sorts M → AreOpen K (length sorts) M ts → AllByRecursion (Comes M) (free_levels_of_all (put_in_each (length sorts) u.binders u.args ts))
    come Nil K M b h = tt
    come (Cons t ts) K M b h =
        both (Comes M) (free_levels (put sorts u t)) (free_levels_of_all (put_in_each (length sorts) u.binders u.args ts)) (comes t K M b h.0) (come ts K M b h.1)

  below-moved : (M : ℕ → Option Sort) (b : ℕ) → Ends M b → length sorts ≤ b → (leaves : List (ℕ × Sort)) → AllByRecursion (Comes M) leaves → AllByRecursion (λ leaf. leaf.0 < moved_level (length sorts) u.binders b) leaves
  below-moved M b ends le [] h = tt
  below-moved M b ends le (leaf ∷ leaves) h = (one h.0, below-moved M b ends le leaves h.1)
    where
      one : Comes M leaf → leaf.0 < moved_level (length sorts) u.binders b
      one (inl lt) = omega (arith, lt, le)
      one (inr m) = go (nat_lt m.level b) refl
        where
          go : (t : Bool) → nat_lt m.level b ≡ t → leaf.0 < moved_level (length sorts) u.binders b
          go true e = let lt : m.level < b = grind (arith, nat_tests) in omega (arith, lt, m.is, m.own, le)
          go false e =
              let past : b ≤ m.level = grind (arith, nat_tests) in
              let none = ends m.level past in
              let there = m.there in
              absurd (cc)

  -- the arguments of a use in the body
  module _ (sorted : AllByRecursion IsSorted u.args) (K : List Sort) (M : ℕ → Option Sort) (b : ℕ) (begin : Begin sorts M) (ends : Ends M b) (le : length sorts ≤ b) where
    each-sorted : (ts : List Tree) → AllByRecursion (IsGood K (length sorts) M) ts → AllByRecursion IsSorted (map (put sorts u) ts)
    each-sorted [] h = tt
    each-sorted (t ∷ ts) h = (put-is_sorted sorts u sorted low t K M begin h.0.0, each-sorted ts h.1)

    each-below : (ts : List Tree) → AllByRecursion (IsGood K (length sorts) M) ts → AllByRecursion (λ t. All (λ leaf. leaf.0 < moved_level (length sorts) u.binders b) (free_levels t)) (map (put sorts u) ts)
    each-below [] h = tt
    each-below (t ∷ ts) h = (
      All-from_recursion (λ leaf. leaf.0 < moved_level (length sorts) u.binders b) (free_levels (put sorts u t)) (below-moved M b ends le (free_levels (put sorts u t)) (comes t K M begin h.0.0)),
      each-below ts h.1,
    )

    each-sort : (ps : Named Sort) (ts : List Tree) → AllByRecursion (IsGood K (length sorts) M) ts → AllByRecursion (λ x. tree_sort x.1 ≡ Some x.0.1) (zip ps ts) → AllByRecursion (λ x. tree_sort x.1 ≡ Some x.0.1) (zip ps (map (put sorts u) ts))
    each-sort [] ts h k = tt
    each-sort (p ∷ ps) [] h k = tt
    each-sort (p ∷ ps) (t ∷ ts) h k = (same-sort sorts u t K M begin h.0.0 ∙ k.0, each-sort ps ts h.1 k.1)

    pub put-arguments : (ps : Named Sort) (ts : List Tree) → AllByRecursion (IsGood K (length sorts) M) ts → AreArguments ps b ts → AllByRecursion (λ t. depth_of t ≤ depth_limit) (map (put sorts u) ts)
        → AreArguments ps (moved_level (length sorts) u.binders b) (map (put sorts u) ts)
    put-arguments ps ts good own shallow = record {
      count = length-map ts (put sorts u) ∙ own.count;
      sorted = All-from_recursion IsSorted (map (put sorts u) ts) (each-sorted ts good);
      sorts = All-from_recursion (λ x. tree_sort x.1 ≡ Some x.0.1) (zip ps (map (put sorts u) ts)) (each-sort ps ts good (recursion_from_All (λ x. tree_sort x.1 ≡ Some x.0.1) (zip ps ts) own.sorts));
      below = All-from_recursion (λ t. All (λ leaf. leaf.0 < moved_level (length sorts) u.binders b) (free_levels t)) (map (put sorts u) ts) (each-below ts good);
      shallow = All-from_recursion (λ t. depth_of t ≤ depth_limit) (map (put sorts u) ts) shallow;
    }
