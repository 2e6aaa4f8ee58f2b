-- From one place of a block to the next.
use Rattle.std.proofs.Common.{◌≡◌, ℕ, zero, suc, ◌<◌, ◌==◌, arith, Bool, true, false, cond, Some, None, List, [], ◌∷◌, length, refl, sym, ap, ◌∙◌, subst, slice_get}
use Rattle.std.specs.Prelude.{IfSome, IsSomeAnd, MatchOption, option_map, unwrap_or}
use Rattle.std.specs.List.{AllByRecursion}
use Rattle.std.proofs.lemmas.Bool.{eqb-true}
use Rattle.std.proofs.lemmas.Option.{slice_get-map}
use Rattle.std.proofs.lemmas.List.Elements.{recursion_from_All, All-from_recursion}
use Rattle.qv_words.specs.declared.sort.Sort.{Sort}
use Rattle.qv_words.specs.declared.sort.Sort.TheVariants.{Bool as BoolSort}
use Rattle.qv_words.specs.declared.word.Word.{Word}
use Rattle.qv_words.specs.Sort.{IsLawful, IsValueOf}
use Rattle.qv_words.specs.Word.{word_sort, word_value, values_of}
use Rattle.qv_words.specs.Tree.{Tree, tree_sort}
use Rattle.qv_words.specs.Sorted.{no_levels, with_level, constants_of, free_levels}
use Rattle.qv_words.specs.Replacement.{HasTheirSorts}
use Rattle.qv_words.specs.Values.{HasWords}
use Rattle.qv_words.specs.Skolem.{IsTermOf}
use Rattle.qv_words.specs.Choice.{IsChosen, with_term}
use Rattle.qv_words.proofs.Elements.{some-and}
use Rattle.qv_game_laws.proofs.Terms.{OfVariable, IsOf, Puts, put-of, over-from_term, term-from_over, over-constants, over-leaves, each-leaf}
use Rattle.qv_game_laws.proofs.ChosenTerms.{block-chosen}
use Rattle.qv_choose_candidates.specs.Chosen.{place_sort}

-- a variable has its word's sort at the point
abbrev pub AtPoint : List Word → OfVariable
AtPoint point l s = IsSomeAnd (slice_get point l) (λ w. word_sort w ≡ s)

pub found-word : (point : List Word) (l : ℕ) → l < length point → (w : Word) × (slice_get point l ≡ Some w)
found-word [] l h = absurd (omega (arith, h))
found-word (w ∷ ws) zero h = (w, refl)
found-word (w ∷ ws) (suc k) h = found-word ws k (omega (arith, h))

pub sort-there : (point : List Word) (x : ℕ) (w : Word) → slice_get point x ≡ Some w → place_sort point x ≡ word_sort w
sort-there point x w e = ap (λ o. unwrap_or (option_map word_sort o) BoolSort) e

pub one-sort : (point : List Word) (x : ℕ) (r : Sort) → AtPoint point x r → r ≡ place_sort point x
one-sort point x r h =
    let here = some-and (slice_get point x) (λ w. word_sort w ≡ r) h in
    sym here.2 ∙ sym (sort-there point x here.0 here.1)

pub region-over : (point : List Word) (region : Tree) → IsTermOf region BoolSort → HasWords [] point region → IsOf (AtPoint point) BoolSort region
region-over point region formula words =
    over-from_term (AtPoint point) BoolSort region formula (recursion_from_All (λ leaf. IsSomeAnd (slice_get point leaf.0) (λ w. word_sort w ≡ leaf.1)) (free_levels region) words.levels)

-- the term that is chosen for a place is one of its sort over the same places
pub chosen-of : (point : List Word) (first end x : ℕ) (region t : Tree) → x < length point → IsTermOf region BoolSort → HasWords [] point region → IsChosen first end (values_of point) region x (place_sort point x) t → IsOf (AtPoint point) (place_sort point x) t
chosen-of point first end x region t low formula words chosen =
    let here = found-word point x low in
    let sort = sort-there point x here.0 here.1 in
    let value : slice_get (values_of point) x ≡ Some (word_value here.0) = slice_get-map word_value point x ∙ ap (option_map word_value) here.1 in
    (block-chosen (AtPoint point) first end (values_of point) region x (place_sort point x ∷ []) (t ∷ []) (
      (
        one-sort point x,
        subst IsLawful (sym sort) here.0.lawful,
        λ v e.
            let both : Some (word_value here.0) ≡ Some v = sym value ∙ e in
            let same : word_value here.0 ≡ v = cc in
            subst (λ (n : ℕ). IsValueOf n (place_sort point x)) same (subst (λ (s : Sort). IsValueOf (word_value here.0) s) (sym sort) here.0.in_range),
      ),
      tt,
    )
    (region-over point region formula words).0 (chosen, refl)).0.0

puts : (point : List Word) (x : ℕ) (t : Tree) → IsOf (AtPoint point) (place_sort point x) t → (l : ℕ) (s : Sort) → AtPoint point l s → Puts (AtPoint point) (with_level no_levels x t) l s
puts point x t h l s k = go (l == x) refl
  where
    go : (b : Bool) → (l == x) ≡ b → MatchOption (cond b (Some t) None) (AtPoint point l s) (IsOf (AtPoint point) s)
    go false e = k
    go true e = subst (λ (r : Sort). IsOf (AtPoint point) r t) (sym (one-sort point x s (subst (λ (j : ℕ). AtPoint point j s) (eqb-true l x e) k))) h

-- it fits the place, and the region goes on as one
pub chosen-fits : (point : List Word) (x : ℕ) (region t : Tree) → IsTermOf region BoolSort → HasWords [] point region → IsOf (AtPoint point) (place_sort point x) t → HasTheirSorts (with_level no_levels x t) region
chosen-fits point x region t formula words h =
    All-from_recursion (λ leaf. IfSome (with_level no_levels x t leaf.0) (λ put. tree_sort put ≡ Some leaf.1)) (free_levels region)
    (each-leaf (λ leaf. IfSome (with_level no_levels x t leaf.0) (λ put. tree_sort put ≡ Some leaf.1)) (AtPoint point) at (free_levels region) (over-leaves (AtPoint point) region (region-over point region formula words).0))
  where
    at : (l : ℕ) (s : Sort) → AtPoint point l s → IfSome (with_level no_levels x t l) (λ put. tree_sort put ≡ Some s)
    at l s k = go (l == x) refl
      where
        go : (b : Bool) → (l == x) ≡ b → IfSome (cond b (Some t) None) (λ put. tree_sort put ≡ Some s)
        go false e = tt
        go true e = h.1 ∙ ap (λ r. Some r) (sym (one-sort point x s (subst (λ (j : ℕ). AtPoint point j s) (eqb-true l x e) k)))

next-of : (point : List Word) (x : ℕ) (region t : Tree) → IsTermOf region BoolSort → HasWords [] point region → IsOf (AtPoint point) (place_sort point x) t → IsOf (AtPoint point) BoolSort (with_term x t region)
next-of point x region t formula words h = put-of (AtPoint point) (AtPoint point) (with_level no_levels x t) BoolSort region (puts point x t h) (region-over point region formula words)

pub next-formula : (point : List Word) (x : ℕ) (region t : Tree) → IsTermOf region BoolSort → HasWords [] point region → IsOf (AtPoint point) (place_sort point x) t → IsTermOf (with_term x t region) BoolSort
next-formula point x region t formula words h = term-from_over (AtPoint point) BoolSort (with_term x t region) (next-of point x region t formula words h)

pub next-words : (point : List Word) (x : ℕ) (region t : Tree) → IsTermOf region BoolSort → HasWords [] point region → IsOf (AtPoint point) (place_sort point x) t → HasWords [] point (with_term x t region)
next-words point x region t formula words h =
    let next = next-of point x region t formula words h in
    record {
      constants = All-from_recursion (λ leaf. IsSomeAnd (slice_get [] leaf.0) (λ w. word_sort w ≡ leaf.1)) (constants_of (with_term x t region))
          (subst (AllByRecursion (λ leaf. IsSomeAnd (slice_get [] leaf.0) (λ w. word_sort w ≡ leaf.1))) (sym (over-constants (AtPoint point) (with_term x t region) next.0)) tt);
      levels = All-from_recursion (λ leaf. IsSomeAnd (slice_get point leaf.0) (λ w. word_sort w ≡ leaf.1)) (free_levels (with_term x t region))
          (each-leaf (λ leaf. IsSomeAnd (slice_get point leaf.0) (λ w. word_sort w ≡ leaf.1)) (AtPoint point) (λ l s k. k) (free_levels (with_term x t region)) (over-leaves (AtPoint point) (with_term x t region) next.0));
    }
