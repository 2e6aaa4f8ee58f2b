-- Trees put in keep a tree sorted, and their leaves stand in place of its variables.
use Rattle.std.proofs.Common.{◌≡◌, ℕ, Option, Some, None, IsSome, refl, subst, sym, ap, ◌∙◌}
use Rattle.std.specs.Prelude.{IfSome, MatchOption, unwrap_or}
use Rattle.std.specs.List.{AllByRecursion}
use Rattle.std.proofs.lemmas.List.Elements.{recursion_from_All}
use Rattle.qv_words.specs.declared.sort.Sort.{Sort}
use Rattle.qv_words.specs.Sort.{IsLawful}
use Rattle.qv_words.specs.Tree.{Tree, Trees, Constant, Variable, Literal, Apply, ForAll, Exists, Nil, Cons, IsQuantifierFree, AreQuantifierFree}
use Rattle.qv_words.specs.Sorted.{IsSorted, AreSortedBelow, no_levels, constants_of, constants_of_all, free_levels, free_levels_of_all}
use Rattle.qv_words.specs.Replacement.{replaced, replaced_each}
use Rattle.qv_words.specs.Laws.{ReplacementKeepsSorted}
use Rattle.qv_words.proofs.Leaves.{front, back, both}
use Rattle.qv_words.proofs.Replacing.{HasItsSort, same_sort}

-- the tree put in at a leaf is sorted
abbrev pub IsSortedPut : (ℕ → Option Tree) → ℕ × Sort → Type 0
IsSortedPut b leaf = IfSome (b leaf.0) IsSorted

sorted_put : (o : Option Tree) (l : ℕ) (s : Sort) → IsLawful s → IfSome o IsSorted → IsSorted (unwrap_or o (Variable l s))
sorted_put None l s h put = (h, tt)
sorted_put (Some t) l s h put = put

mutual
  pub stays-sorted : (t : Tree) (b : ℕ → Option Tree) → IsQuantifierFree t → AllByRecursion (HasItsSort b) (free_levels t) → IsSorted t → AllByRecursion (IsSortedPut b) (free_levels t) → IsSorted (replaced b t)
  stays-sorted (Constant i s) b plain h sorted puts = sorted
  stays-sorted (Variable l s) b plain h sorted puts = sorted_put (b l) l s sorted.0 puts.0
  stays-sorted (Literal s n) b plain h sorted puts = sorted
  stays-sorted (Apply o args) b plain h sorted puts =
      (stay-sorted args b plain h sorted.0 puts, subst IsSome (sym (same_sort (Apply o args) b plain h)) sorted.1)
  stays-sorted (ForAll l s body) b plain h sorted puts = absurd plain
  stays-sorted (Exists l s body) b plain h sorted puts = absurd plain

  pub stay-sorted : (ts : Trees) (b : ℕ → Option Tree) → AreQuantifierFree ts → AllByRecursion (HasItsSort b) (free_levels_of_all ts) → AreSortedBelow no_levels ts → AllByRecursion (IsSortedPut b) (free_levels_of_all ts) → AreSortedBelow no_levels (replaced_each b ts)
  stay-sorted Nil b plain h sorted puts = tt
  stay-sorted (Cons t ts) b plain h sorted puts = (
    stays-sorted t b plain.0 (front (HasItsSort b) (free_levels t) (free_levels_of_all ts) h) sorted.0 (front (IsSortedPut b) (free_levels t) (free_levels_of_all ts) puts),
    stay-sorted ts b plain.1 (back (HasItsSort b) (free_levels t) (free_levels_of_all ts) h) sorted.1 (back (IsSortedPut b) (free_levels t) (free_levels_of_all ts) puts),
  )

pub replacement-keeps_sorted : ReplacementKeepsSorted
replacement-keeps_sorted t b plain sorts sorted puts =
    stays-sorted t b plain (recursion_from_All (HasItsSort b) (free_levels t) sorts) sorted (recursion_from_All (IsSortedPut b) (free_levels t) puts)

-- the tree put in at a leaf has no quantifiers
abbrev pub IsPlainPut : (ℕ → Option Tree) → ℕ × Sort → Type 0
IsPlainPut b leaf = IfSome (b leaf.0) IsQuantifierFree

plain_put : (o : Option Tree) (l : ℕ) (s : Sort) → IfSome o IsQuantifierFree → IsQuantifierFree (unwrap_or o (Variable l s))
plain_put None l s h = tt
plain_put (Some t) l s h = h

-- nor has the tree then
mutual
  pub stays-plain : (t : Tree) (b : ℕ → Option Tree) → IsQuantifierFree t → AllByRecursion (IsPlainPut b) (free_levels t) → IsQuantifierFree (replaced b t)
  stays-plain (Constant i s) b plain h = tt
  stays-plain (Variable l s) b plain h = plain_put (b l) l s h.0
  stays-plain (Literal s n) b plain h = tt
  stays-plain (Apply o args) b plain h = stay-plain args b plain h
  stays-plain (ForAll l s body) b plain h = absurd plain
  stays-plain (Exists l s body) b plain h = absurd plain

  pub stay-plain : (ts : Trees) (b : ℕ → Option Tree) → AreQuantifierFree ts → AllByRecursion (IsPlainPut b) (free_levels_of_all ts) → AreQuantifierFree (replaced_each b ts)
  stay-plain Nil b plain h = tt
  stay-plain (Cons t ts) b plain h = (
    stays-plain t b plain.0 (front (IsPlainPut b) (free_levels t) (free_levels_of_all ts) h),
    stay-plain ts b plain.1 (back (IsPlainPut b) (free_levels t) (free_levels_of_all ts) h),
  )

-- P holds of a leaf, or of the variables of the tree put in there
abbrev pub HoldsPut : (ℕ × Sort → Type 0) → (ℕ → Option Tree) → ℕ × Sort → Type 0
HoldsPut P b leaf = MatchOption (b leaf.0) (P leaf) (λ put. AllByRecursion P (free_levels put))

at-put : (P : ℕ × Sort → Type 0) (o : Option Tree) (l : ℕ) (s : Sort) → MatchOption o (P (l, s)) (λ put. AllByRecursion P (free_levels put)) → AllByRecursion P (free_levels (unwrap_or o (Variable l s)))
at-put P None l s h = (h, tt)
at-put P (Some put) l s h = h

-- what holds of the variables that stay and of those put in holds of all variables
mutual
  pub variables-put : (P : ℕ × Sort → Type 0) (t : Tree) (b : ℕ → Option Tree) → IsQuantifierFree t → AllByRecursion (HoldsPut P b) (free_levels t) → AllByRecursion P (free_levels (replaced b t))
  variables-put P (Constant i s) b plain h = tt
  variables-put P (Variable l s) b plain h = at-put P (b l) l s h.0
  variables-put P (Literal s n) b plain h = tt
  variables-put P (Apply o args) b plain h = variables-put_each P args b plain h
  variables-put P (ForAll l s body) b plain h = absurd plain
  variables-put P (Exists l s body) b plain h = absurd plain

  pub variables-put_each : (P : ℕ × Sort → Type 0) (ts : Trees) (b : ℕ → Option Tree) → AreQuantifierFree ts → AllByRecursion (HoldsPut P b) (free_levels_of_all ts) → AllByRecursion P (free_levels_of_all (replaced_each b ts))
  variables-put_each P Nil b plain h = tt
  variables-put_each P (Cons t ts) b plain h =
      both P (free_levels (replaced b t)) (free_levels_of_all (replaced_each b ts))
      (variables-put P t b plain.0 (front (HoldsPut P b) (free_levels t) (free_levels_of_all ts) h))
      (variables-put_each P ts b plain.1 (back (HoldsPut P b) (free_levels t) (free_levels_of_all ts) h))

-- P holds of the constants of the tree put in at a leaf
abbrev pub HoldsInPut : (ℕ × Sort → Type 0) → (ℕ → Option Tree) → ℕ × Sort → Type 0
HoldsInPut P b leaf = IfSome (b leaf.0) (λ put. AllByRecursion P (constants_of put))

in-put : (P : ℕ × Sort → Type 0) (o : Option Tree) (l : ℕ) (s : Sort) → IfSome o (λ put. AllByRecursion P (constants_of put)) → AllByRecursion P (constants_of (unwrap_or o (Variable l s)))
in-put P None l s h = tt
in-put P (Some put) l s h = h

-- what holds of a tree's constants and of those put in holds of all constants
mutual
  pub constants-put : (P : ℕ × Sort → Type 0) (t : Tree) (b : ℕ → Option Tree) → IsQuantifierFree t → AllByRecursion P (constants_of t) → AllByRecursion (HoldsInPut P b) (free_levels t) → AllByRecursion P (constants_of (replaced b t))
  constants-put P (Constant i s) b plain own h = own
  constants-put P (Variable l s) b plain own h = in-put P (b l) l s h.0
  constants-put P (Literal s n) b plain own h = tt
  constants-put P (Apply o args) b plain own h = constants-put_each P args b plain own h
  constants-put P (ForAll l s body) b plain own h = absurd plain
  constants-put P (Exists l s body) b plain own h = absurd plain

  pub constants-put_each : (P : ℕ × Sort → Type 0) (ts : Trees) (b : ℕ → Option Tree) → AreQuantifierFree ts → AllByRecursion P (constants_of_all ts) → AllByRecursion (HoldsInPut P b) (free_levels_of_all ts) → AllByRecursion P (constants_of_all (replaced_each b ts))
  constants-put_each P Nil b plain own h = tt
  constants-put_each P (Cons t ts) b plain own h =
      both P (constants_of (replaced b t)) (constants_of_all (replaced_each b ts))
      (constants-put P t b plain.0 (front P (constants_of t) (constants_of_all ts) own) (front (HoldsInPut P b) (free_levels t) (free_levels_of_all ts) h))
      (constants-put_each P ts b plain.1 (back P (constants_of t) (constants_of_all ts) own) (back (HoldsInPut P b) (free_levels t) (free_levels_of_all ts) h))

-- to put the same in
mutual
  pub same-put : (b d : ℕ → Option Tree) → ((l : ℕ) → b l ≡ d l) → (t : Tree) → replaced b t ≡ replaced d t
  same-put b d h (Constant i s) = refl
  same-put b d h (Variable l s) = ap (λ o. unwrap_or o (Variable l s)) (h l)
  same-put b d h (Literal s n) = refl
  same-put b d h (Apply o args) = ap (λ ts. Apply o ts) (same-put_each b d h args)
  same-put b d h (ForAll l s body) = ap (λ u. ForAll l s u) (same-put b d h body)
  same-put b d h (Exists l s body) = ap (λ u. Exists l s u) (same-put b d h body)

  same-put_each : (b d : ℕ → Option Tree) → ((l : ℕ) → b l ≡ d l) → (ts : Trees) → replaced_each b ts ≡ replaced_each d ts
  same-put_each b d h Nil = refl
  same-put_each b d h (Cons t ts) = ap (λ u. Cons u (replaced_each b ts)) (same-put b d h t) ∙ ap (λ us. Cons (replaced d t) us) (same-put_each b d h ts)
