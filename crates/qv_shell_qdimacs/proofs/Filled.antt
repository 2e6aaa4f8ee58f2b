-- Values that are given, in their places among truth values.
use Rattle.std.proofs.Common.{◌≡◌, ℕ, zero, suc, ◌<◌, ◌==◌, Bool, true, false, List, [], ◌∷◌, ◌++◌, length, map, replicate, set, Some, refl, sym, ap, subst, ◌∙◌, arith}
use Rattle.std.specs.Prelude.{All, IsSomeAnd, slice_get}
use Rattle.std.specs.List.{AllByRecursion}
use Rattle.std.proofs.lemmas.List.{append-nil, length-map, length-replicate, length-set, map-set}
use Rattle.std.proofs.lemmas.List.Elements.{All-head, All-from_recursion, recursion_from_All}
use Rattle.qv_cnf.specs.Literal.{Literal}
use Rattle.qv_words.specs.declared.sort.Sort.{Sort}
use Rattle.qv_words.specs.declared.sort.Sort.TheVariants.{Bool as BoolSort}
use Rattle.qv_words.specs.Sort.{IsValueOf}
use Rattle.qv_words.specs.Op.{truth}
use Rattle.qv_words.specs.Tree.{Tree}
use Rattle.qv_words.specs.Word.{word_value}
use Rattle.qv_words.specs.Sorted.{constants_of, no_levels}
use Rattle.qv_words.specs.Meaning.{Means}
use Rattle.qv_words.specs.Truth.{constants_of_each}
use Rattle.qv_words.specs.Problem.{in_order}
use Rattle.qv_words.proofs.Elements.{of-some}
use Rattle.qv_prenex_laws.proofs.InOrder.{all-in_order}
use Rattle.qv_solve_draw.specs.declared.values.ConstValue.{ConstValue}
use Rattle.qv_solve.specs.Solutions.{AreConstantsOf, HasValuesOf}
use Rattle.qv_shell_answer.specs.Values.{filled as filled_numbers}
use Rattle.qv_shell_answer.proofs.Filled.{SameIndices, Within, constants-apart, filled-has}
use Rattle.qv_qdimacs.specs.declared.files.Quantified.{Quantified}
use Rattle.qv_qdimacs.specs.Outer.{AreOnce, holds_under, outer_of, variables_of}
use Rattle.qv_qdimacs.specs.Translation.{formula_of}
use Rattle.qv_qdimacs.proofs.Closed.{IsOuter, file-within}
use Rattle.qv_qdimacs.proofs.Kept.{kept}
use Rattle.qv_shell_qdimacs.specs.Values.{filled}

pub filled-length : (values : List Bool) (vs : List ConstValue) → length (filled values vs) ≡ length values
filled-length values [] = refl
filled-length values (v ∷ vs) = filled-length (set values v.index (word_value v.word == 1)) vs ∙ length-set values v.index (word_value v.word == 1)

-- a value of a truth value
abbrev IsBit : ConstValue → Type 0
IsBit v = word_value v.word < 2

truth-of : (n : ℕ) → n < 2 → truth (n == 1) ≡ n
truth-of zero h = refl
truth-of (suc zero) h = refl
truth-of (suc (suc n)) h = absurd (omega (arith, h))

-- as numbers they are the same
same-filled : (values : List Bool) (vs : List ConstValue) → AllByRecursion IsBit vs → map truth (filled values vs) ≡ filled_numbers (map truth values) vs
same-filled values [] h = refl
same-filled values (v ∷ vs) h =
    same-filled (set values v.index (word_value v.word == 1)) vs h.1
    ∙ ap (λ (c : List ℕ). filled_numbers c vs) (map-set truth values v.index (word_value v.word == 1) ∙ ap (λ (n : ℕ). set (map truth values) v.index n) (truth-of (word_value v.word) h.0))

-- ---- those of a file's constants

within-of : (n : ℕ) (ds : List (ℕ × Sort)) (vs : List ConstValue) → SameIndices vs ds → AllByRecursion (IsOuter n) ds → Within n vs
within-of n [] [] e h = tt
within-of n [] (v ∷ vs) e h = absurd cc
within-of n (d ∷ ds) [] e h = absurd cc
within-of n (d ∷ ds) (v ∷ vs) e h =
    let same : v.index ≡ d.0 = cc in
    (subst (λ (i : ℕ). i < n) (sym same) h.0.0, within-of n ds vs (cc) h.1)

-- a constant has a value of its sort
abbrev HasValue : List ℕ → ℕ × Sort → Type 0
HasValue c leaf = IsSomeAnd (slice_get c leaf.0) (λ v. IsValueOf v leaf.1)

bits-of : (n : ℕ) (c : List ℕ) (ds : List (ℕ × Sort)) (vs : List ConstValue) → SameIndices vs ds → AllByRecursion (IsOuter n) ds → AllByRecursion (HasValue c) ds → HasValuesOf c vs → AllByRecursion IsBit vs
bits-of n c [] [] e h k at = tt
bits-of n c [] (v ∷ vs) e h k at = absurd cc
bits-of n c (d ∷ ds) [] e h k at = absurd cc
bits-of n c (d ∷ ds) (v ∷ vs) e h k at =
    let same : v.index ≡ d.0 = cc in
    let here : slice_get c d.0 ≡ Some (word_value v.word) = subst (λ (i : ℕ). slice_get c i ≡ Some (word_value v.word)) same at.0 in
    let value : IsValueOf (word_value v.word) d.1 = of-some (slice_get c d.0) (λ (x : ℕ). IsValueOf x d.1) (word_value v.word) here k.0 in
    let low : IsValueOf (word_value v.word) BoolSort = subst (λ (s : Sort). IsValueOf (word_value v.word) s) h.0.1 value in
    (low, bits-of n c ds vs (cc) h.1 k.1 at.1)

module _ (prefix : List Quantified) (clauses : List (List Literal)) (vs : List ConstValue) (h : AreConstantsOf (formula_of prefix clauses ∷ []) vs) where
  abbrev n : ℕ
  n = length (outer_of prefix clauses)

  abbrev t : Tree
  t = formula_of prefix clauses

  abbrev base : List Bool
  base = replicate n false

  each-outer : AllByRecursion (IsOuter n) (constants_of_each (t ∷ []))
  each-outer = subst (AllByRecursion (IsOuter n)) (sym (append-nil (constants_of t))) (file-within prefix clauses).constants

  in-order-outer : AllByRecursion (IsOuter n) (in_order (constants_of_each (t ∷ [])))
  in-order-outer = all-in_order (IsOuter n) (constants_of_each (t ∷ [])) each-outer

  within : Within n vs
  within = within-of n (in_order (constants_of_each (t ∷ []))) vs h.indices in-order-outer

  -- each is one of the outer variables
  pub constants-fit : All (λ v. v.index < n) vs
  constants-fit = All-from_recursion (λ v. v.index < n) vs within

  many : length (map truth base) ≡ n
  many = length-map base truth ∙ length-replicate n false

  numbers-have : HasValuesOf (filled_numbers (map truth base) vs) vs
  numbers-have = filled-has (map truth base) vs (constants-apart (t ∷ []) vs h) (subst (λ (k : ℕ). Within k vs) (sym many) within)

  bits : AllByRecursion IsBit vs
  bits =
      let c = filled_numbers (map truth base) vs in
      bits-of n c (in_order (constants_of_each (t ∷ []))) vs h.indices in-order-outer
      (all-in_order (HasValue c) (constants_of_each (t ∷ [])) (recursion_from_All (HasValue c) (constants_of_each (t ∷ [])) (h.lawful c numbers-have))) numbers-have

  -- there is a value for each outer variable
  pub values-each : length (filled base vs) ≡ n
  values-each = filled-length base vs ∙ length-replicate n false

  -- and under them the file holds
  pub values-hold : AreOnce (variables_of prefix) → holds_under prefix clauses (filled base vs) ≡ true
  values-hold once =
      let c = filled_numbers (map truth base) vs in
      let means : Means c no_levels t 1 = All-head (λ u. Means c no_levels u 1) t [] (h.hold c numbers-have) in
      let same = same-filled base vs bits in
      (kept prefix clauses (filled base vs) once values-each).holds.0 (subst (λ (d : List ℕ). Means d no_levels t 1) (sym same) means)
