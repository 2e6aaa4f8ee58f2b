-- What is chosen for a block, by the laws of choice.
use Rattle.std.proofs.Common.{◌≡◌, ℕ, suc, ◌+◌, ◌<◌, ◌≤◌, arith, Option, Some, None, List, [], ◌∷◌, length, drop, refl, sym, ap, ◌∙◌, subst, slice_get, length-drop}
use Rattle.std.specs.Prelude.{All, IsSomeAnd, option_map}
use Rattle.std.specs.List.{AllByRecursion, AllZip}
use Rattle.std.proofs.lemmas.List.{length-map}
use Rattle.std.proofs.lemmas.Option.{slice_get-map, slice_get_within}
use Rattle.std.proofs.lemmas.List.Elements.{recursion_from_All, All-from_recursion}
use Rattle.qv_words.specs.declared.sort.Sort.{Sort}
use Rattle.qv_words.specs.declared.sort.Sort.TheVariants.{Bool as BoolSort}
use Rattle.qv_words.specs.declared.word.Word.{Word}
use Rattle.qv_words.specs.Sort.{IsLawful, IsValueOf}
use Rattle.qv_words.specs.Word.{word_sort, word_value, sorts_of, values_of}
use Rattle.qv_words.specs.Tree.{Tree}
use Rattle.qv_words.specs.Sorted.{free_levels}
use Rattle.qv_words.specs.Values.{HasWords}
use Rattle.qv_words.specs.Skolem.{IsTermOf}
use Rattle.qv_words.specs.Choice.{AreChosen, IsTrueAt}
use Rattle.qv_words.specs.ChoiceLaws.{HasSortAt, HasSortsFrom}
use Rattle.qv_words.specs.Linked.{with_terms}
use Rattle.qv_words.proofs.Chosen.{blocks-keep_truth}
use Rattle.qv_words.proofs.Elements.{all-weaker, some-and, zip-more, dropped-first}
use Rattle.qv_game_laws.specs.CandidateLaws.{HasValuesFrom}
use Rattle.qv_game_laws.proofs.ChosenTerms.{chosen-are_terms}

word-at : (o : Option Word) (s : Sort) → option_map word_sort o ≡ Some s → (w : Word) × (o ≡ Some w) × (word_sort w ≡ s)
word-at None s e = absurd (cc)
word-at (Some w) s e = (w, refl, cc)

-- the places from one on have these sorts, in the region and at the point
from-place : (point : List Word) (region : Tree) → HasWords [] point region → (sorts : List Sort) (x : ℕ) → drop x (sorts_of point) ≡ sorts → HasSortsFrom x sorts region × HasValuesFrom (values_of point) x sorts × AllByRecursion IsLawful sorts
from-place point region words [] x e = (tt, tt, tt)
from-place point region words (s ∷ sorts) x e =
    let first = dropped-first (sorts_of point) x s sorts e in
    let here = word-at (slice_get point x) s (sym (slice_get-map word_sort point x) ∙ first.0) in
    let rest = from-place point region words sorts (suc x) first.1 in
    let own : HasSortAt x s region =
    All-from_recursion (λ leaf. leaf.0 ≡ x → leaf.1 ≡ s) (free_levels region)
    (all-weaker (λ leaf. IsSomeAnd (slice_get point leaf.0) (λ w. word_sort w ≡ leaf.1)) (λ leaf. leaf.0 ≡ x → leaf.1 ≡ s) (free_levels region)
    (λ leaf h at.
    let there = some-and (slice_get point leaf.0) (λ w. word_sort w ≡ leaf.1) h in
    let both : Some there.0 ≡ Some here.0 = sym there.1 ∙ ap (slice_get point) at ∙ here.1 in
    let same : there.0 ≡ here.0 = cc in
    sym there.2 ∙ ap word_sort same ∙ here.2)
    (recursion_from_All (λ leaf. IsSomeAnd (slice_get point leaf.0) (λ w. word_sort w ≡ leaf.1)) (free_levels region) words.levels)) in (
      (own, rest.0),
      (
        (λ v at.
            let both : Some (word_value here.0) ≡ Some v = sym (slice_get-map word_value point x ∙ ap (option_map word_value) here.1) ∙ at in
            let same : word_value here.0 ≡ v = cc in
            subst (λ (n : ℕ). IsValueOf n s) same (subst (λ (r : Sort). IsValueOf (word_value here.0) r) here.2 here.0.in_range)),
        rest.1,
      ),
      (subst IsLawful here.2 here.0.lawful, rest.2),
    )

pub block-terms : (point : List Word) (first end : ℕ) (region : Tree) (terms : List Tree) → IsTermOf region BoolSort → HasWords [] point region → length point ≡ end → AreChosen first end (values_of point) region first (drop first (sorts_of point)) terms
    → AllZip (λ t s. IsTermOf t s × All (λ leaf. leaf.0 < first) (free_levels t)) terms (drop first (sorts_of point))
block-terms point first end region terms formula words many chosen =
    let from = from-place point region words (drop first (sorts_of point)) first refl in
    let levels : All (λ leaf. leaf.0 < end) (free_levels region) =
    All-from_recursion (λ leaf. leaf.0 < end) (free_levels region)
    (all-weaker (λ leaf. IsSomeAnd (slice_get point leaf.0) (λ w. word_sort w ≡ leaf.1)) (λ leaf. leaf.0 < end) (free_levels region)
    (λ leaf h. let there = some-and (slice_get point leaf.0) (λ w. word_sort w ≡ leaf.1) h in omega (arith, slice_get_within point leaf.0 there.0 there.1, many))
    (recursion_from_All (λ leaf. IsSomeAnd (slice_get point leaf.0) (λ w. word_sort w ≡ leaf.1)) (free_levels region) words.levels)) in
    zip-more _ (λ t s. IsTermOf t s × All (λ leaf. leaf.0 < first) (free_levels t))
    (λ t s h. (h.0, λ k d low. (h.1 k d low).1)) terms (drop first (sorts_of point))
    (chosen-are_terms first end (values_of point) region (drop first (sorts_of point)) terms formula levels (All-from_recursion IsLawful (drop first (sorts_of point)) from.2) from.0 from.1 chosen)

pub block-stays : (point : List Word) (first end : ℕ) (region : Tree) (terms : List Tree) → IsTermOf region BoolSort → HasWords [] point region → length point ≡ end → first ≤ end → IsTrueAt (values_of point) region
    → AreChosen first end (values_of point) region first (drop first (sorts_of point)) terms → IsTrueAt (values_of point) (with_terms first terms region)
block-stays point first end region terms formula words many low holds chosen =
    let from = from-place point region words (drop first (sorts_of point)) first refl in
    let long : first + length (drop first (sorts_of point)) ≤ end = omega (arith, length-drop first (sorts_of point), length-map point word_sort, many, low) in
    blocks-keep_truth first end (values_of point) region first (drop first (sorts_of point)) terms (omega arith) long formula.quantifier_free from.0 holds chosen
