-- The formula of a file is true for some values of its constants exactly where the file is true.
use Rattle.std.proofs.Common.{◌≡◌, ℕ, zero, suc, ◌<◌, Bool, true, false, eqb, List, [], ◌∷◌, ◌++◌, length, map, slice_get, Option, Some, None, refl, sym, ap, subst, ◌∙◌, arith}
use Rattle.std.specs.Prelude.{IsSomeAnd}
use Rattle.std.specs.List.{AllByRecursion}
use Rattle.std.proofs.lemmas.List.{append-nil}
use Rattle.std.proofs.lemmas.List.Elements.{All-head, All-nil, All-cons, All-from_recursion, recursion_from_All}
use Rattle.qv_cnf.specs.Literal.{Literal}
use Rattle.qv_words.specs.declared.sort.Sort.{Sort}
use Rattle.qv_words.specs.declared.sort.Sort.TheVariants.{Bool as BoolSort}
use Rattle.qv_words.specs.Sort.{IsValueOf}
use Rattle.qv_words.specs.Op.{truth}
use Rattle.qv_words.specs.Tree.{Tree}
use Rattle.qv_words.specs.Sorted.{constants_of, no_levels}
use Rattle.qv_words.specs.Meaning.{Means}
use Rattle.qv_words.specs.Truth.{AreTrue}
use Rattle.qv_words.proofs.Leaves.{Agree}
use Rattle.qv_words.proofs.Agreeing.{SameConstant, same_meaning}
use Rattle.qv_qdimacs.specs.declared.files.Quantified.{Quantified}
use Rattle.qv_qdimacs.specs.Outer.{AreOnce, variables_of, outer_of, IsTrueFile}
use Rattle.qv_qdimacs.specs.Translation.{formula_of}
use Rattle.qv_qdimacs.specs.Laws.{TranslationKeepsTruth}
use Rattle.qv_qdimacs.proofs.Closed.{IsOuter, file-within, file-closed}
use Rattle.qv_qdimacs.proofs.Kept.{kept}

-- n truth values: those of a list, and then false
abbrev cut : ℕ → List ℕ → List Bool
cut zero c = []
cut (suc n) [] = false ∷ cut n []
cut (suc n) (v ∷ c) = eqb v 1 ∷ cut n c

length-cut : (n : ℕ) (c : List ℕ) → length (cut n c) ≡ n
length-cut zero c = refl
length-cut (suc n) [] = let more = length-cut n [] in omega (arith, more)
length-cut (suc n) (v ∷ c) = let more = length-cut n c in omega (arith, more)

truth-of : (v : ℕ) → v < 2 → truth (eqb v 1) ≡ v
truth-of zero h = refl
truth-of (suc zero) h = refl
truth-of (suc (suc v)) h = absurd (omega (arith, h))

-- a truth value that the list has stays
cut-at : (n i v : ℕ) (c : List ℕ) → i < n → slice_get c i ≡ Some v → v < 2 → slice_get (map truth (cut n c)) i ≡ Some v
cut-at zero i v c less is low = absurd (omega (arith, less))
cut-at (suc n) i v [] less is low = absurd (cc)
cut-at (suc n) zero v (w ∷ c) less is low =
    let same : w ≡ v = cc in ap Some (ap (λ (u : ℕ). truth (eqb u 1)) same ∙ truth-of v low)
cut-at (suc n) (suc i) v (w ∷ c) less is low = cut-at n i v c (omega (arith, less)) is low

-- a constant has a value of its sort
abbrev HasValue : List ℕ → ℕ × Sort → Type 0
HasValue c leaf = IsSomeAnd (slice_get c leaf.0) (λ v. IsValueOf v leaf.1)

cut-same : (n : ℕ) (c : List ℕ) (leaves : List (ℕ × Sort)) → AllByRecursion (IsOuter n) leaves → AllByRecursion (HasValue c) leaves → AllByRecursion (SameConstant c (map truth (cut n c))) leaves
cut-same n c [] h k = tt
cut-same n c (leaf ∷ leaves) h k = (one (slice_get c leaf.0) leaf.1 refl h.0.1 k.0, cut-same n c leaves h.1 k.1)
  where
    one : (o : Option ℕ) (s : Sort) → slice_get c leaf.0 ≡ o → s ≡ BoolSort → IsSomeAnd o (λ v. IsValueOf v s) → slice_get c leaf.0 ≡ slice_get (map truth (cut n c)) leaf.0
    one None s is bool value = absurd value
    one (Some v) s is bool value =
        let low : IsValueOf v BoolSort = subst (λ (r : Sort). IsValueOf v r) bool value in
        is ∙ sym (cut-at n leaf.0 v c h.0.0 is low)

-- each outer variable has a value
has-values : (values : List Bool) (n : ℕ) (leaves : List (ℕ × Sort)) → length values ≡ n → AllByRecursion (IsOuter n) leaves → AllByRecursion (HasValue (map truth values)) leaves
has-values values n [] many h = tt
has-values values n (leaf ∷ leaves) many h =
    (subst (λ (s : Sort). IsSomeAnd (slice_get (map truth values) leaf.0) (λ v. IsValueOf v s)) (sym h.0.1) (value leaf.0 values (omega (arith, many, h.0.0))), has-values values n leaves many h.1)
  where
    value : (i : ℕ) (bs : List Bool) → i < length bs → IsSomeAnd (slice_get (map truth bs) i) (λ v. IsValueOf v BoolSort)
    value i [] less = absurd (omega (arith, less))
    value zero (true ∷ bs) less = omega arith
    value zero (false ∷ bs) less = omega arith
    value (suc i) (b ∷ bs) less = value i bs (omega (arith, less))

each-append-nil : (P : ℕ × Sort → Type 0) (xs : List (ℕ × Sort)) → AllByRecursion P xs → AllByRecursion P (xs ++ [])
each-append-nil P xs h = subst (AllByRecursion P) (sym (append-nil xs)) h

without-nil : (P : ℕ × Sort → Type 0) (xs : List (ℕ × Sort)) → AllByRecursion P (xs ++ []) → AllByRecursion P xs
without-nil P xs h = subst (AllByRecursion P) (append-nil xs) h

module _ (prefix : List Quantified) (clauses : List (List Literal)) (once : AreOnce (variables_of prefix)) where
  n : ℕ
  n = length (outer_of prefix clauses)

  t : Tree
  t = formula_of prefix clauses

  file-true : AreTrue (t ∷ []) → IsTrueFile prefix clauses
  unfolding t n
  file-true (c, has, holds) =
      let values = cut n c in
      let many : length values ≡ n = length-cut n c in
      let own = without-nil (HasValue c) (constants_of t) (recursion_from_All (HasValue c) (constants_of t ++ []) has) in
      let same = cut-same n c (constants_of t) (file-within prefix clauses).constants own in
      let free = subst (AllByRecursion (Agree no_levels no_levels)) (sym (file-closed prefix clauses)) tt in
      let means = same_meaning t c (map truth values) no_levels no_levels 1 same free (All-head (λ u. Means c no_levels u 1) t [] holds) in
      (values, many, (kept prefix clauses values once many).holds.0 means)

  true-file : IsTrueFile prefix clauses → AreTrue (t ∷ [])
  unfolding n t
  true-file (values, many, holds) =
      let c = map truth values in
      let own = each-append-nil (HasValue c) (constants_of t) (has-values values n (constants_of t) many (file-within prefix clauses).constants) in
      let means = (kept prefix clauses values once many).holds.1 holds in
      (c, All-from_recursion (HasValue c) (constants_of t ++ []) own, All-cons (λ u. Means c no_levels u 1) t [] means (All-nil (λ u. Means c no_levels u 1)))

pub truth-kept : TranslationKeepsTruth
unfolding t
truth-kept prefix clauses once = (file-true prefix clauses once, true-file prefix clauses once)
