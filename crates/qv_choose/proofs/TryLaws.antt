-- A candidate's trial at a point.
use Rattle.std.proofs.Common.{◌≡◌, ℕ, zero, suc, ◌<◌, ◌==◌, arith, Bool, true, false, cond, Option, Some, None, List, [], ◌∷◌, length, set, get_or, refl, sym, ap, ◌∙◌, subst, slice_get}
use Rattle.std.specs.Prelude.{IsSomeAnd, MatchOption, option_map}
use Rattle.std.proofs.lemmas.Bool.{eqb-true, eqb-false}
use Rattle.std.proofs.lemmas.Option.{slice_get-map}
use Rattle.std.proofs.lemmas.List.Elements.{recursion_from_All, All-from_recursion}
use Rattle.qv_words.specs.declared.sort.Sort.{Sort}
use Rattle.qv_words.specs.declared.sort.Sort.TheVariants.{Bool as BoolSort}
use Rattle.qv_words.specs.declared.word.Word.{Word}
use Rattle.qv_words.specs.Word.{word_sort, word_value, values_of}
use Rattle.qv_words.specs.Tree.{Tree, tree_sort}
use Rattle.qv_words.specs.Sorted.{no_levels, with_level, free_levels}
use Rattle.qv_words.specs.Meaning.{Means}
use Rattle.qv_words.specs.Values.{HasWords, MeansUnder}
use Rattle.qv_words.specs.Skolem.{IsTermOf}
use Rattle.qv_words.proofs.Unique.{one_meaning}
use Rattle.qv_words.proofs.Elements.{all-weaker, to-some, some-and}
use Rattle.qv_game_laws.proofs.Terms.{Takes, over-from_term, put-means, put-means_back}
use Rattle.qv_store.specs.Nodes.{tree_at}
use Rattle.qv_store.specs.Evaluating.{IsWordOf, HasValue, HaveValues}
use Rattle.qv_choose_candidates.specs.Offers.{Decides, HasPlaceSort, StaysTrue}

-- a list with one word set
set-there : (xs : List Word) (x : ℕ) (w : Word) → x < length xs → slice_get (set xs x w) x ≡ Some w
set-there [] x w h = absurd (omega (arith, h))
set-there (y ∷ ys) zero w h = refl
set-there (y ∷ ys) (suc x) w h = set-there ys x w (omega (arith, h))

set-others : (xs : List Word) (x k : ℕ) (w : Word) → (k ≡ x → ⊥) → slice_get (set xs x w) k ≡ slice_get xs k
set-others [] x k w h = refl
set-others (y ∷ ys) zero zero w h = absurd (h refl)
set-others (y ∷ ys) zero (suc k) w h = refl
set-others (y ∷ ys) (suc x) zero w h = refl
set-others (y ∷ ys) (suc x) (suc k) w h = set-others ys x k w (λ e. h (ap suc e))

pub set-back : (xs : List Word) (x : ℕ) (w own : Word) → own ≡ get_or xs x own → set (set xs x w) x own ≡ xs
set-back [] x w own e = refl
set-back (y ∷ ys) zero w own e = ap (λ v. v ∷ ys) e
set-back (y ∷ ys) (suc x) w own e = ap (λ vs. y ∷ vs) (set-back ys x w own e)

-- the place's word is there
pub place-there : (point : List Word) (x : ℕ) (s : Sort) → HasPlaceSort point x s → x < length point
place-there point x s h = go point x h
  where
    go : (xs : List Word) (k : ℕ) → IsSomeAnd (slice_get xs k) (λ own. word_sort own ≡ s) → k < length xs
    go [] k h = absurd h
    go (y ∷ ys) zero h = omega arith
    go (y ∷ ys) (suc k) h = omega (arith, go ys k h)

-- words stay words with another of the same sort
words-set : (point : List Word) (x : ℕ) (w : Word) → HasPlaceSort point x (word_sort w) → (l : ℕ) (s : Sort) → IsSomeAnd (slice_get point l) (λ v. word_sort v ≡ s) → IsSomeAnd (slice_get (set point x w) l) (λ v. word_sort v ≡ s)
words-set point x w own l s h = go (l == x) refl
  where
    go : (b : Bool) → (l == x) ≡ b → IsSomeAnd (slice_get (set point x w) l) (λ v. word_sort v ≡ s)
    go false e = subst (λ (o : Option Word). IsSomeAnd o (λ v. word_sort v ≡ s)) (sym (set-others point x l w (eqb-false l x e))) h
    go true e =
        let at : l ≡ x = eqb-true l x e in
        let there = set-there point x w (place-there point x (word_sort w) own) in
        let one = some-and (slice_get point x) (λ v. word_sort v ≡ word_sort w) own in
        let two = some-and (slice_get point l) (λ v. word_sort v ≡ s) h in
        let same : Some one.0 ≡ Some two.0 = sym one.1 ∙ ap (slice_get point) (sym at) ∙ two.1 in
        let equal : one.0 ≡ two.0 = cc in
        to-some (slice_get (set point x w) l) (λ v. word_sort v ≡ s) w (ap (slice_get (set point x w)) at ∙ there) (sym one.2 ∙ ap word_sort equal ∙ two.2)

pub value-set : (point : List Word) (x : ℕ) (w : Word) (t : Tree) → HasPlaceSort point x (word_sort w) → HasValue [] point t → HasValue [] (set point x w) t
value-set point x w t own h = record {
  quantifier_free = h.quantifier_free;
  words = record {
    constants = h.words.constants;
    levels = All-from_recursion (λ leaf. IsSomeAnd (slice_get (set point x w) leaf.0) (λ v. word_sort v ≡ leaf.1)) (free_levels t)
        (all-weaker (λ leaf. IsSomeAnd (slice_get point leaf.0) (λ v. word_sort v ≡ leaf.1)) (λ leaf. IsSomeAnd (slice_get (set point x w) leaf.0) (λ v. word_sort v ≡ leaf.1)) (free_levels t)
        (λ leaf k. words-set point x w own leaf.0 leaf.1 k) (recursion_from_All (λ leaf. IsSomeAnd (slice_get point leaf.0) (λ v. word_sort v ≡ leaf.1)) (free_levels t) h.words.levels));
  };
}

pub values-set : (point : List Word) (trees : List Tree) (ids : List ℕ) (x : ℕ) (w : Word) → HasPlaceSort point x (word_sort w) → HaveValues [] point trees ids → HaveValues [] (set point x w) trees ids
values-set point trees ids x w own h k n at = value-set point x w (tree_at trees n) own (h k n at)

-- what the region means with a term put in and with the term's word
abbrev AtPoint : List Word → ℕ → Sort → Type 0
AtPoint point l s = IsSomeAnd (slice_get point l) (λ v. word_sort v ≡ s)

takes : (point : List Word) (x : ℕ) (w : Word) (u : Tree) → HasPlaceSort point x (word_sort w) → IsWordOf [] point u w → (l : ℕ) (s : Sort) → AtPoint point l s
    → Takes (with_level no_levels x u) (slice_get (values_of point)) (slice_get (values_of (set point x w))) l s
takes point x w u own h l s k = go (l == x) refl
  where
    go : (b : Bool) → (l == x) ≡ b → MatchOption (cond b (Some u) None) (slice_get (values_of (set point x w)) l ≡ slice_get (values_of point) l) (λ put. (tree_sort put ≡ Some s) × IsSomeAnd (slice_get (values_of (set point x w)) l) (λ v. Means [] (slice_get (values_of point)) put v))
    go false e =
        slice_get-map word_value (set point x w) l ∙ ap (λ o. option_map word_value o) (set-others point x l w (eqb-false l x e)) ∙ sym (slice_get-map word_value point l)
    go true e =
        let at : l ≡ x = eqb-true l x e in
        let one = some-and (slice_get point x) (λ v. word_sort v ≡ word_sort w) own in
        let two = some-and (slice_get point l) (λ v. word_sort v ≡ s) k in
        let same : Some one.0 ≡ Some two.0 = sym one.1 ∙ ap (slice_get point) (sym at) ∙ two.1 in
        let equal : one.0 ≡ two.0 = cc in
        let sort : word_sort w ≡ s = sym one.2 ∙ ap word_sort equal ∙ two.2 in
        let there : slice_get (values_of (set point x w)) l ≡ Some (word_value w) =
        slice_get-map word_value (set point x w) l ∙ ap (λ o. option_map word_value o) (ap (slice_get (set point x w)) at ∙ set-there point x w (place-there point x (word_sort w) own)) in
        (h.sort ∙ ap (λ r. Some r) sort, to-some (slice_get (values_of (set point x w)) l) (λ v. Means [] (slice_get (values_of point)) u v) (word_value w) there h.value)

pub trial-decides : (point : List Word) (x : ℕ) (w found : Word) (region : Tree) (held : Bool) → IsTermOf region BoolSort → HasWords [] point region → HasPlaceSort point x (word_sort w)
    → MeansUnder [] (set point x w) region (word_value found) → held ≡ (word_value found == 1) → Decides (StaysTrue (values_of point) region x) (λ u. IsWordOf [] point u w) held
trial-decides point x w found region held formula words own means is u h =
    let leaves = recursion_from_All (λ leaf. IsSomeAnd (slice_get point leaf.0) (λ v. word_sort v ≡ leaf.1)) (free_levels region) words.levels in
    let over = over-from_term (AtPoint point) BoolSort region formula leaves in (
      λ e.
          let one : word_value found ≡ 1 = eqb-true (word_value found) 1 (sym is ∙ e) in
          put-means (AtPoint point) (with_level no_levels x u) (slice_get (values_of point)) (slice_get (values_of (set point x w))) region 1 over.0 (takes point x w u own h)
          (subst (λ (v : ℕ). Means [] (slice_get (values_of (set point x w))) region v) one means),
      λ e k.
          let back = put-means_back (AtPoint point) (with_level no_levels x u) (slice_get (values_of point)) (slice_get (values_of (set point x w))) region 1 over.0 (takes point x w u own h) k in
          let one : word_value found ≡ 1 = one_meaning region [] (slice_get (values_of (set point x w))) (word_value found) 1 means back in
          eqb-false (word_value found) 1 (sym is ∙ e) one,
    )
