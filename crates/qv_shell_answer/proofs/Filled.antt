-- Values that are given, in their places.
use Rattle.std.proofs.Common.{◌≡◌, ◌≢◌, ℕ, zero, suc, ◌<◌, Some, List, [], ◌∷◌, map, length, set, slice_get, refl, sym, ap, subst, ◌∙◌, arith}
use Rattle.std.specs.Prelude.{All, IsSomeAnd, zip}
use Rattle.std.specs.List.{AllByRecursion}
use Rattle.std.proofs.lemmas.List.{length-map, length-set}
use Rattle.std.proofs.lemmas.List.Elements.{recursion_from_All, All-from_recursion}
use Rattle.qv_words.specs.declared.sort.Sort.{Sort}
use Rattle.qv_words.specs.Problem.{in_order}
use Rattle.qv_prenex_laws.proofs.InOrder.{AreRising, in_order-rising, all-in_order}
use Rattle.qv_words.specs.Word.{word_value}
use Rattle.qv_words.specs.Tree.{Tree}
use Rattle.qv_words.specs.Sort.{IsValueOf, width_of}
use Rattle.qv_words.proofs.Elements.{some-and, of-some, to-some}
use Rattle.std.proofs.lemmas.Nat.{pow_pos}
use Rattle.qv_words.specs.Truth.{constants_of_each}
use Rattle.qv_script_stack.specs.declared.held.Declared.{Declared}
use Rattle.qv_script_stack.specs.Held.{declared_of}
use Rattle.qv_solve_draw.specs.declared.values.ConstValue.{ConstValue}
use Rattle.qv_solve.specs.Solutions.{AreConstantsOf, HasValuesOf}
use Rattle.qv_script_transcript.specs.Lawful.{AreValues}
use Rattle.qv_shell_answer.specs.Values.{filled, Fit}

-- an index that isn't among those of the values
abbrev pub Without : ℕ → List ConstValue → Type 0
Without i vs = AllByRecursion (λ v. v.index ≢ i) vs

-- each index stands once
abbrev pub AreApart : List ConstValue → Type 0
AreApart [] = Unit {0}
AreApart (v ∷ vs) = Without v.index vs × AreApart vs

set-other : (c : List ℕ) (k i a : ℕ) → k ≢ i → slice_get (set c k a) i ≡ slice_get c i
set-other [] k i a h = refl
set-other (x ∷ c) zero zero a h = absurd (h refl)
set-other (x ∷ c) zero (suc i) a h = refl
set-other (x ∷ c) (suc k) zero a h = refl
set-other (x ∷ c) (suc k) (suc i) a h = set-other c k i a (λ e. h (ap suc e))

set-same : (c : List ℕ) (k a : ℕ) → k < length c → slice_get (set c k a) k ≡ Some a
set-same [] k a h = absurd (omega (arith, h))
set-same (x ∷ c) zero a h = refl
set-same (x ∷ c) (suc k) a h = set-same c k a (omega (arith, h))

pub filled-length : (c : List ℕ) (vs : List ConstValue) → length (filled c vs) ≡ length c
filled-length c [] = refl
filled-length c (v ∷ vs) = filled-length (set c v.index (word_value v.word)) vs ∙ length-set c v.index (word_value v.word)

filled-others : (c : List ℕ) (vs : List ConstValue) (i : ℕ) → Without i vs → slice_get (filled c vs) i ≡ slice_get c i
filled-others c [] i h = refl
filled-others c (v ∷ vs) i h = filled-others (set c v.index (word_value v.word)) vs i h.1 ∙ set-other c v.index i (word_value v.word) h.0

abbrev pub Within : ℕ → List ConstValue → Type 0
Within n vs = AllByRecursion (λ v. v.index < n) vs

pub filled-has : (c : List ℕ) (vs : List ConstValue) → AreApart vs → Within (length c) vs → HasValuesOf (filled c vs) vs
filled-has c [] apart within = tt
filled-has c (v ∷ vs) apart within =
    let now = set c v.index (word_value v.word) in (
      filled-others now vs v.index apart.0 ∙ set-same c v.index (word_value v.word) within.0,
      filled-has now vs apart.1 (subst (λ n. Within n vs) (sym (length-set c v.index (word_value v.word))) within.1),
    )

-- ---- the constants of formulas

abbrev pub SameIndices : List ConstValue → List (ℕ × Sort) → Type 0
SameIndices vs ds = map (λ v. v.index) vs ≡ map (λ d. d.0) ds

without-of : (n : ℕ) (ds : List (ℕ × Sort)) (vs : List ConstValue) → SameIndices vs ds → AllByRecursion (λ d. n < d.0) ds → Without n vs
without-of n [] [] e h = tt
without-of n [] (v ∷ vs) e h = absurd cc
without-of n (d ∷ ds) [] e h = absurd cc
without-of n (d ∷ ds) (v ∷ vs) e h =
    let same : v.index ≡ d.0 = cc in
    let above = h.0 in
    ((λ is. absurd (omega (arith, same, above, is))), without-of n ds vs (cc) h.1)

rising-apart : (ds : List (ℕ × Sort)) (vs : List ConstValue) → SameIndices vs ds → AreRising ds → AreApart vs
rising-apart [] [] e h = tt
rising-apart [] (v ∷ vs) e h = absurd cc
rising-apart (d ∷ ds) [] e h = absurd cc
rising-apart (d ∷ ds) (v ∷ vs) e h =
    let same : v.index ≡ d.0 = cc in
    let others : SameIndices vs ds = cc in
    (subst (λ n. Without n vs) (sym same) (without-of d.0 ds vs others h.0), rising-apart ds vs others h.1)

pub constants-apart : (formulas : List Tree) (vs : List ConstValue) → AreConstantsOf formulas vs → AreApart vs
constants-apart formulas vs h = rising-apart (in_order (constants_of_each formulas)) vs h.indices (in_order-rising (constants_of_each formulas))

-- what holds of each constant holds of what has its index
abbrev pub IsOver : List Declared → ℕ × Sort → Type 0
IsOver owns leaf = slice_get (map (λ own. own.sort) owns) leaf.0 ≡ Some leaf.1

declared-at : (owns : List Declared) (i : ℕ) (s : Sort) → slice_get (map (λ own. own.sort) owns) i ≡ Some s → IsSomeAnd (slice_get owns i) (λ own. own.sort ≡ s)
declared-at [] i s e = absurd cc
declared-at (own ∷ owns) zero s e = cc
declared-at (own ∷ owns) (suc i) s e = declared-at owns i s e

index-within : (owns : List Declared) (i : ℕ) (s : Sort) → slice_get (map (λ own. own.sort) owns) i ≡ Some s → i < length owns
index-within [] i s e = absurd cc
index-within (own ∷ owns) zero s e = omega arith
index-within (own ∷ owns) (suc i) s e = let below = index-within owns i s e in omega (arith, below)

within-of : (owns : List Declared) (ds : List (ℕ × Sort)) (vs : List ConstValue) → SameIndices vs ds → AllByRecursion (IsOver owns) ds → Within (length owns) vs
within-of owns [] [] e h = tt
within-of owns [] (v ∷ vs) e h = absurd cc
within-of owns (d ∷ ds) [] e h = absurd cc
within-of owns (d ∷ ds) (v ∷ vs) e h =
    let same : v.index ≡ d.0 = cc in
    (subst (λ n. n < length owns) (sym same) (index-within owns d.0 d.1 h.0), within-of owns ds vs (cc) h.1)

-- a value that is one of its constant's sort
abbrev HasLeaf : List ℕ → ℕ × Sort → Type 0
HasLeaf c leaf = IsSomeAnd (slice_get c leaf.0) (λ v. IsValueOf v leaf.1)

fit-one : (owns : List Declared) (c : List ℕ) (v : ConstValue) (leaf : ℕ × Sort) → v.index ≡ leaf.0 → slice_get c v.index ≡ Some (word_value v.word) → HasLeaf c leaf → IsOver owns leaf → Fit owns v
fit-one owns c v leaf same at has over =
    let here : slice_get c leaf.0 ≡ Some (word_value v.word) = subst (λ (i : ℕ). slice_get c i ≡ Some (word_value v.word)) same at in
    let value : IsValueOf (word_value v.word) leaf.1 = of-some (slice_get c leaf.0) (λ (x : ℕ). IsValueOf x leaf.1) (word_value v.word) here has in
    let own = some-and (slice_get owns leaf.0) (λ (o : Declared). o.sort ≡ leaf.1) (declared-at owns leaf.0 leaf.1 over) in
    to-some (slice_get owns v.index) (λ (o : Declared). IsValueOf (word_value v.word) o.sort) own.0
    (subst (λ (i : ℕ). slice_get owns i ≡ Some own.0) (sym same) own.1) (subst (λ (s : Sort). IsValueOf (word_value v.word) s) (sym own.2) value)

fit-all : (owns : List Declared) (c : List ℕ) (ds : List (ℕ × Sort)) (vs : List ConstValue) → SameIndices vs ds → HasValuesOf c vs → AllByRecursion (HasLeaf c) ds → AllByRecursion (IsOver owns) ds → AllByRecursion (Fit owns) vs
fit-all owns c [] [] e at has over = tt
fit-all owns c [] (v ∷ vs) e at has over = absurd cc
fit-all owns c (d ∷ ds) [] e at has over = absurd cc
fit-all owns c (d ∷ ds) (v ∷ vs) e at has over =
    let same : v.index ≡ d.0 = cc in
    (fit-one owns c v d same at.0 has.0 over.0, fit-all owns c ds vs (cc) at.1 has.1 over.1)

-- ---- values of the constants' sorts

abbrev InSorts : List Declared → List ℕ → Type 0
InSorts owns c = AllByRecursion (λ x. IsValueOf x.1 x.0.1) (zip (declared_of owns) c)

zeros-in : (owns : List Declared) → InSorts owns (map (λ _. 0) owns)
zeros-in [] = tt
zeros-in (own ∷ owns) = (pow_pos (width_of own.sort), zeros-in owns)

set-in : (owns : List Declared) (c : List ℕ) (i a : ℕ) → InSorts owns c → IsSomeAnd (slice_get owns i) (λ own. IsValueOf a own.sort) → InSorts owns (set c i a)
set-in [] c i a h fit = absurd fit
set-in (own ∷ owns) [] i a h fit = tt
set-in (own ∷ owns) (x ∷ c) zero a h fit = (fit, h.1)
set-in (own ∷ owns) (x ∷ c) (suc i) a h fit = (h.0, set-in owns c i a h.1 fit)

filled-in : (owns : List Declared) (c : List ℕ) (vs : List ConstValue) → InSorts owns c → AllByRecursion (Fit owns) vs → InSorts owns (filled c vs)
filled-in owns c [] h fit = h
filled-in owns c (v ∷ vs) h fit = filled-in owns (set c v.index (word_value v.word)) vs (set-in owns c v.index (word_value v.word) h fit.0) fit.1

-- ---- 0 elsewhere

others-without : (i : ℕ) (ds : List (ℕ × Sort)) (vs : List ConstValue) → SameIndices vs ds → AllByRecursion (λ d. d.0 ≢ i) ds → Without i vs
others-without i [] [] e h = tt
others-without i [] (v ∷ vs) e h = absurd cc
others-without i (d ∷ ds) [] e h = absurd cc
others-without i (d ∷ ds) (v ∷ vs) e h =
    let same : v.index ≡ d.0 = cc in
    ((λ is. h.0 (sym same ∙ is)), others-without i ds vs (cc) h.1)

zero-there : (owns : List Declared) (i v : ℕ) → slice_get (map (λ _. 0) owns) i ≡ Some v → v ≡ 0
zero-there [] i v e = absurd cc
zero-there (own ∷ owns) zero v e = cc
zero-there (own ∷ owns) (suc i) v e = zero-there owns i v e

-- the values with 0 for the constants that have none
abbrev all_of : List Declared → List ConstValue → List ℕ
all_of owns vs = filled (map (λ _. 0) owns) vs

module _ (owns : List Declared) (formulas : List Tree) (vs : List ConstValue) (h : AreConstantsOf formulas vs) (over : All (IsOver owns) (constants_of_each formulas)) where
  abbrev leaves : List (ℕ × Sort)
  leaves = in_order (constants_of_each formulas)

  each-over : AllByRecursion (IsOver owns) leaves
  each-over = all-in_order (IsOver owns) (constants_of_each formulas) (recursion_from_All (IsOver owns) (constants_of_each formulas) over)

  has-given : HasValuesOf (all_of owns vs) vs
  has-given = filled-has (map (λ _. 0) owns) vs (constants-apart formulas vs h) (subst (λ n. Within n vs) (sym (length-map owns (λ _. 0))) (within-of owns leaves vs h.indices each-over))

  pub values-fit : All (Fit owns) vs
  values-fit = All-from_recursion (Fit owns) vs
      (fit-all owns (all_of owns vs) leaves vs h.indices has-given
      (all-in_order (HasLeaf (all_of owns vs)) (constants_of_each formulas) (recursion_from_All (HasLeaf (all_of owns vs)) (constants_of_each formulas) (h.lawful (all_of owns vs) has-given))) each-over)

  others-zero : (i v : ℕ) → slice_get (all_of owns vs) i ≡ Some v → All (λ leaf. leaf.0 ≢ i) (constants_of_each formulas) → v ≡ 0
  others-zero i v at none =
      let apart = all-in_order (λ d. d.0 ≢ i) (constants_of_each formulas) (recursion_from_All (λ d. d.0 ≢ i) (constants_of_each formulas) none) in
      zero-there owns i v (sym (filled-others (map (λ _. 0) owns) vs i (others-without i leaves vs h.indices apart)) ∙ at)

  pub values-lawful : AreValues (declared_of owns) formulas (all_of owns vs)
  values-lawful = record {
    each = filled-length (map (λ _. 0) owns) vs ∙ length-map owns (λ _. 0) ∙ sym (length-map owns (λ own. (own.name.items, own.sort)));
    sorts =
        All-from_recursion (λ x. IsValueOf x.1 x.0.1) (zip (declared_of owns) (all_of owns vs))
        (filled-in owns (map (λ _. 0) owns) vs (zeros-in owns) (recursion_from_All (Fit owns) vs values-fit));
    hold = h.hold (all_of owns vs) has-given;
    unused = others-zero;
  }
