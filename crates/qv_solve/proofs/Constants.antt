-- Values of the constants.
use Rattle.std.proofs.Common.{◌≡◌, ◌↔◌, ℕ, zero, suc, Option, Some, List, [], ◌∷◌, length, map, slice_get, unwrap_or, refl, sym, ap, ◌∙◌, subst, arith}
use Rattle.std.specs.Prelude.{IsSomeAnd}
use Rattle.std.proofs.lemmas.List.{length-map}
use Rattle.std.proofs.lemmas.List.Elements.{All-from_recursion}
use Rattle.std.proofs.lemmas.Option.{none-some, same_Some}
use Rattle.qv_words.specs.declared.sort.Sort.{Sort}
use Rattle.qv_words.specs.Sort.{IsValueOf}
use Rattle.qv_words.specs.Word.{word_sort, word_value}
use Rattle.qv_words.specs.Tree.{Tree}
use Rattle.qv_words.specs.Truth.{HasConstantsOf, HaveOneSort, HoldUnder, constants_of_each}
use Rattle.qv_words.specs.Problem.{Existential, Place, Problem, in_order, index_in, problem_of}
use Rattle.qv_words.specs.GameLaws.{WinsFrom}
use Rattle.qv_words.proofs.Elements.{all-at, all-weaker, found-at, get-map, in-front, of-some, some-and, to-some}
use Rattle.qv_prenex.specs.Posed.{values_for}
use Rattle.qv_prenex.proofs.Problems.{problem-prefix}
use Rattle.qv_prenex_laws.proofs.InOrder.{IsFound, OneSort, found-sort}
use Rattle.qv_solve_draw.specs.declared.values.ConstValue.{ConstValue}
use Rattle.qv_solve_draw.specs.Values.{AreExistential, indices_of, values_of}
use Rattle.qv_solve.specs.Solutions.{AreConstantsOf, HasValuesOf}
use Rattle.qv_solve.specs.Answering.{AreFirstValues}

-- the place of a constant
abbrev place_for : ℕ × Sort → Place
place_for k = record { quantifier = Existential; sort = k.1 }

place-there : (fs : List Tree) (j : ℕ) (k : ℕ × Sort) → slice_get (in_order (constants_of_each fs)) j ≡ Some k → slice_get (problem_of fs).prefix j ≡ Some (place_for k)
place-there fs j k at =
    ap (λ (ps : List Place). slice_get ps j) (problem-prefix fs) ∙ in-front (map place_for (in_order (constants_of_each fs))) _ j (place_for k) (get-map place_for (in_order (constants_of_each fs)) j k at)

pub first-existential : (fs : List Tree) (p : Problem) (indices : List ℕ) → p ≡ problem_of fs → indices ≡ map (λ c. c.0) (in_order (constants_of_each fs)) → AreExistential p (length indices)
first-existential fs p indices is named = λ j less.
    let ds = in_order (constants_of_each fs) in
    let many : length indices ≡ length ds = ap (λ (ns : List ℕ). length ns) named ∙ length-map ds (λ (c : ℕ × Sort). c.0) in
    let k = found-at ds j (omega (arith, less, many)) in
    subst (λ (q : Problem). IsSomeAnd (slice_get q.prefix j) (λ place. place.quantifier ≡ Existential)) (sym is)
    (to-some (slice_get (problem_of fs).prefix j) (λ place. place.quantifier ≡ Existential) (place_for k.0) (place-there fs j k.0 k.1) refl)

mapped-at : {A B : Type 0} (f : A → B) (xs : List A) (j : ℕ) (y : B) → slice_get (map f xs) j ≡ Some y → (x : A) × (slice_get xs j ≡ Some x) × (f x ≡ y)
mapped-at f [] j y at = absurd (none-some y at)
mapped-at f (x ∷ xs) zero y at = (x, refl, same_Some (f x) y at)
mapped-at f (x ∷ xs) (suc j) y at = mapped-at f xs j y at

-- values among which these are
own-values : (c : List ℕ) (values : List ConstValue) → HasValuesOf c values → values_for (indices_of values) c ≡ values_of values
own-values c [] h = refl
own-values c (v ∷ values) h =
    ap (λ (o : Option ℕ). unwrap_or o 0 ∷ values_for (indices_of values) c) h.0 ∙ ap (λ (ns : List ℕ). word_value v.word ∷ ns) (own-values c values h.1)

module _ (fs : List Tree) (values : List ConstValue) (one : HaveOneSort fs) (first : AreFirstValues (problem_of fs) (map (λ k. k.0) (in_order (constants_of_each fs))) values)
    (under : (c : List ℕ) → HasConstantsOf c fs → WinsFrom (problem_of fs) Existential (values_for (map (λ k. k.0) (in_order (constants_of_each fs))) c) ↔ HoldUnder c fs) where
  lawful-one : (c : List ℕ) → HasValuesOf c values → (leaf : ℕ × Sort) → IsFound OneSort (in_order (constants_of_each fs)) leaf → IsSomeAnd (slice_get c leaf.0) (λ v. IsValueOf v leaf.1)
  lawful-one c has leaf found =
      let ds = in_order (constants_of_each fs) in
      let j = index_in ds leaf.0 in
      let k = some-and (slice_get ds j) (λ d. (d.0 ≡ leaf.0) × (d.1 ≡ leaf.1)) found in
      let named : slice_get (indices_of values) j ≡ Some k.0.0 = ap (λ (ns : List ℕ). slice_get ns j) first.indices_are ∙ get-map (λ (d : ℕ × Sort). d.0) ds j k.0 k.1 in
      let v = mapped-at (λ (x : ConstValue). x.index) values j k.0.0 named in
      let sort : word_sort v.0.word ≡ k.0.1 = of-some (slice_get (problem_of fs).prefix j) (λ place. word_sort v.0.word ≡ place.sort) (place_for k.0) (place-there fs j k.0 k.1) (first.sorts j v.0 v.1) in
      let value : slice_get c v.0.index ≡ Some (word_value v.0.word) = all-at (λ (x : ConstValue). slice_get c x.index ≡ Some (word_value x.word)) values j v.0 has v.1 in
      let at : slice_get c leaf.0 ≡ Some (word_value v.0.word) = ap (λ (n : ℕ). slice_get c n) (sym (v.2 ∙ k.2.0)) ∙ value in
      to-some (slice_get c leaf.0) (λ n. IsValueOf n leaf.1) (word_value v.0.word) at
      (subst (λ (s : Sort). IsValueOf (word_value v.0.word) s) (sort ∙ k.2.1) v.0.word.in_range)

  lawful : (c : List ℕ) → HasValuesOf c values → HasConstantsOf c fs
  lawful c has =
      All-from_recursion (λ leaf. IsSomeAnd (slice_get c leaf.0) (λ v. IsValueOf v leaf.1)) (constants_of_each fs)
      (all-weaker (IsFound OneSort (in_order (constants_of_each fs))) (λ leaf. IsSomeAnd (slice_get c leaf.0) (λ v. IsValueOf v leaf.1)) (constants_of_each fs) (lawful-one c has) (found-sort (constants_of_each fs) one))

  pub constants-of : AreConstantsOf fs values
  constants-of = record {
    indices = first.indices_are;
    lawful = lawful;
    hold = λ c has.
        (under c (lawful c has)).0
        (subst (WinsFrom (problem_of fs) Existential) (sym (ap (λ (ns : List ℕ). values_for ns c) (sym first.indices_are) ∙ own-values c values has)) first.wins);
  }
