-- Rows at words, and at terms of a store.
use Rattle.std.proofs.Common.{◌≡◌, ℕ, zero, suc, ◌<◌, ◌≤◌, ◌==◌, arith, Bool, true, false, cond, Option, Some, None, List, [], ◌∷◌, length, refl, sym, ap, ◌∙◌, subst, slice_get, length-append}
use Rattle.std.specs.Prelude.{IfSome, IsSomeAnd, unwrap_or}
use Rattle.std.specs.List.{AllByRecursion}
use Rattle.std.proofs.lemmas.Bool.{eqb-true}
use Rattle.std.proofs.lemmas.List.Elements.{All-from_recursion}
use Rattle.qv_words.specs.declared.sort.Sort.{Sort}
use Rattle.qv_words.specs.declared.sort.Sort.TheVariants.{Bool as BoolSort}
use Rattle.qv_words.specs.declared.word.Word.{Word}
use Rattle.qv_words.specs.Word.{word_sort, word_value, values_of}
use Rattle.qv_words.specs.Tree.{Tree, Trees, Constant, Variable, Literal, Apply, ForAll, Exists, Nil, Cons, tree_sort, IsQuantifierFree}
use Rattle.qv_words.specs.Sorted.{no_levels, with_level, IsSorted, AreSortedBelow, constants_of, free_levels}
use Rattle.qv_words.specs.Replacement.{replaced, replaced_each, HasTheirSorts}
use Rattle.qv_words.specs.Values.{HasWords, MeansUnder}
use Rattle.qv_words.specs.InverseLaws.{IsOver as IsRowOver, AreOver as AreRowsOver}
use Rattle.qv_words.specs.Choice.{put_in_row}
use Rattle.qv_words.proofs.Existing.{has_sort}
use Rattle.qv_words.proofs.Replaced.{same-put}
use Rattle.qv_words.proofs.Replacing.{HasItsSort, same_sort}
use Rattle.qv_game_laws.proofs.Terms.{IsOver, AreOver, Takes, over-free, over-constants, over-leaves, each-leaf, put-means}
use Rattle.qv_game_laws.proofs.Candidates.{IsRowLeaf}
use Rattle.qv_store.specs.Nodes.{tree_at}
use Rattle.qv_store.specs.Stores.{StandsAt, Grows}
use Rattle.qv_store.specs.Evaluating.{IsWordOf}
use Rattle.qv_store.specs.Replacing.{put_by_level}
use Rattle.qv_store.proofs.Standing.{tree_at-before}
use Rattle.qv_choose_paths.specs.Rows.{sort_of, sort_at, IsRowWord}

mutual
  pub row-over : (q r : Sort) (row : Tree) → IsSorted row → IsRowOver q r row → IsOver (IsRowLeaf q r) row
  row-over q r (Constant i s) sorted h = absurd h
  row-over q r (Variable zero s) sorted h = (sorted.0, h)
  row-over q r (Variable (suc zero) s) sorted h = (sorted.0, h)
  row-over q r (Variable (suc (suc l)) s) sorted h = absurd h
  row-over q r (Literal s n) sorted h = sorted
  row-over q r (Apply o args) sorted h = (row-over_each q r args sorted.0 h, sorted.1)
  row-over q r (ForAll l s body) sorted h = absurd h
  row-over q r (Exists l s body) sorted h = absurd h

  row-over_each : (q r : Sort) (rows : Trees) → AreSortedBelow no_levels rows → AreRowsOver q r rows → AreOver (IsRowLeaf q r) rows
  row-over_each q r Nil sorted h = tt
  row-over_each q r (Cons t ts) sorted h = (row-over q r t sorted.0 h.0, row-over_each q r ts sorted.1 h.1)

pub row-free : (q r : Sort) (row : Tree) → IsSorted row → IsRowOver q r row → IsQuantifierFree row
row-free q r row sorted h = over-free (IsRowLeaf q r) row (row-over q r row sorted h)

-- the words of the other argument and the target are words for a row
none-of : (P : ℕ × Sort → Type 0) (leaves : List (ℕ × Sort)) → leaves ≡ [] → AllByRecursion P leaves
none-of P leaves e = subst (AllByRecursion P) (sym e) tt

pub row-words : (row : Tree) (consts : List Word) (other target : Word) → IsSorted row → IsRowOver (word_sort other) (word_sort target) row → HasWords consts (other ∷ target ∷ []) row
row-words row consts other target sorted h =
    let over = row-over (word_sort other) (word_sort target) row sorted h in
    record {
      constants = All-from_recursion (λ leaf. IsSomeAnd (slice_get consts leaf.0) (λ w. word_sort w ≡ leaf.1)) (constants_of row)
          (none-of (λ leaf. IsSomeAnd (slice_get consts leaf.0) (λ w. word_sort w ≡ leaf.1)) (constants_of row) (over-constants (IsRowLeaf (word_sort other) (word_sort target)) row over));
      levels = All-from_recursion (λ leaf. IsSomeAnd (slice_get (other ∷ target ∷ []) leaf.0) (λ w. word_sort w ≡ leaf.1)) (free_levels row)
          (each-leaf (λ leaf. IsSomeAnd (slice_get (other ∷ target ∷ []) leaf.0) (λ w. word_sort w ≡ leaf.1)) (IsRowLeaf (word_sort other) (word_sort target)) at (free_levels row)
          (over-leaves (IsRowLeaf (word_sort other) (word_sort target)) row over));
    }
  where
    at : (l : ℕ) (s : Sort) → IsRowLeaf (word_sort other) (word_sort target) l s → IsSomeAnd (slice_get (other ∷ target ∷ []) l) (λ w. word_sort w ≡ s)
    at zero s k = sym k
    at (suc zero) s k = sym k
    at (suc (suc l)) s k = absurd k

takes : (point : List Word) (s t : Tree) (other target : Word) → IsWordOf [] point s other → IsWordOf [] point t target → (l : ℕ) (x : Sort) → IsRowLeaf (word_sort other) (word_sort target) l x
    → Takes (with_level (with_level no_levels 0 s) 1 t) (slice_get (values_of point)) (slice_get (values_of (other ∷ target ∷ []))) l x
takes point s t other target hs ht zero x k = (hs.sort ∙ ap (λ y. Some y) (sym k), hs.value)
takes point s t other target hs ht (suc zero) x k = (ht.sort ∙ ap (λ y. Some y) (sym k), ht.value)
takes point s t other target hs ht (suc (suc l)) x k = absurd k

its-sort : (s t : Tree) (q r : Sort) → tree_sort s ≡ Some q → tree_sort t ≡ Some r → (l : ℕ) (x : Sort) → IsRowLeaf q r l x → HasItsSort (with_level (with_level no_levels 0 s) 1 t) (l, x)
its-sort s t q r hs ht zero x k = hs ∙ ap (λ y. Some y) (sym k)
its-sort s t q r hs ht (suc zero) x k = ht ∙ ap (λ y. Some y) (sym k)
its-sort s t q r hs ht (suc (suc l)) x k = absurd k

pub row-sort : (q r : Sort) (s t row : Tree) → IsSorted row → IsRowOver q r row → tree_sort s ≡ Some q → tree_sort t ≡ Some r → tree_sort (put_in_row s t row) ≡ tree_sort row
row-sort q r s t row sorted h hs ht =
    let over = row-over q r row sorted h in
    same_sort row (with_level (with_level no_levels 0 s) 1 t) (over-free (IsRowLeaf q r) row over)
    (each-leaf (HasItsSort (with_level (with_level no_levels 0 s) 1 t)) (IsRowLeaf q r) (its-sort s t q r hs ht) (free_levels row) (over-leaves (IsRowLeaf q r) row over))

pub row-word_is : (row : Tree) (other target w : Word) → IsSorted row → IsRowOver (word_sort other) (word_sort target) row → tree_sort row ≡ Some (word_sort w) → MeansUnder [] (other ∷ target ∷ []) row (word_value w) → IsRowWord row other target w
row-word_is row other target w sorted h sort means point s t hs ht = record {
  sort = row-sort (word_sort other) (word_sort target) s t row sorted h hs.sort ht.sort ∙ sort;
  value = put-means (IsRowLeaf (word_sort other) (word_sort target)) (with_level (with_level no_levels 0 s) 1 t) (slice_get (values_of point)) (slice_get (values_of (other ∷ target ∷ []))) row (word_value w)
      (row-over (word_sort other) (word_sort target) row sorted h) (takes point s t other target hs ht) means;
}

-- in longer stores terms stay
pub stays-at : (old new : List Tree) (n : ℕ) → Grows old new → n < length old → tree_at new n ≡ tree_at old n
stays-at old new n g h = ap (λ xs. tree_at xs n) g.behind ∙ tree_at-before old g.more n h

pub longer : (old new : List Tree) → Grows old new → length old ≤ length new
longer old new g = omega (arith, ap length g.behind, length-append old g.more)

behind-two : (s t : Tree) (l : ℕ) → with_level (with_level no_levels 0 s) 1 t (suc (suc l)) ≡ None
behind-two s t l = go (suc (suc l) == 1) refl (suc (suc l) == 0) refl
  where
    go : (b : Bool) → (suc (suc l) == 1) ≡ b → (c : Bool) → (suc (suc l) == 0) ≡ c → cond b (Some t) (cond c (Some s) None) ≡ None
    go true e c f = absurd (omega (arith, eqb-true (suc (suc l)) 1 e))
    go false e true f = absurd (omega (arith, eqb-true (suc (suc l)) 0 f))
    go false e false f = refl

two-put : (old mid : List Tree) (o t : ℕ) → Grows old mid → o < length old → t < length old → (l : ℕ) → put_by_level mid (Some o ∷ Some t ∷ []) l ≡ with_level (with_level no_levels 0 (tree_at old o)) 1 (tree_at old t) l
two-put old mid o t g ho ht zero = ap (λ u. Some u) (stays-at old mid o g ho)
two-put old mid o t g ho ht (suc zero) = ap (λ u. Some u) (stays-at old mid t g ht)
two-put old mid o t g ho ht (suc (suc l)) = sym (behind-two (tree_at old o) (tree_at old t) l)

pub row-put : (old mid new : List Tree) (o t id made : ℕ) (row : Tree) → Grows old mid → o < length old → t < length old → tree_at mid id ≡ row
    → StandsAt new made (replaced (put_by_level mid (Some o ∷ Some t ∷ [])) (tree_at mid id)) → StandsAt new made (put_in_row (tree_at old o) (tree_at old t) row)
row-put old mid new o t id made row g ho ht is h = record {
  below = h.below;
  tree = h.tree ∙ ap (λ u. replaced (put_by_level mid (Some o ∷ Some t ∷ [])) u) is
      ∙ same-put (put_by_level mid (Some o ∷ Some t ∷ [])) (with_level (with_level no_levels 0 (tree_at old o)) 1 (tree_at old t)) (two-put old mid o t g ho ht) row;
}

-- a sorted term's sort
pub sort-is : (t : Tree) → IsSorted t → tree_sort t ≡ Some (sort_of t)
sort-is t sorted =
    let own = has_sort t no_levels sorted in
    own.1 ∙ ap (λ o. Some (unwrap_or o BoolSort)) (sym own.1)

pub row-sorts : (old mid : List Tree) (o t : ℕ) (row : Tree) → Grows old mid → o < length old → t < length old → IsSorted (tree_at old o) → IsSorted (tree_at old t) → IsSorted row → IsRowOver (sort_at old o) (sort_at old t) row
    → HasTheirSorts (put_by_level mid (Some o ∷ Some t ∷ [])) row
row-sorts old mid o t row g ho ht so st sorted h =
    All-from_recursion (λ leaf. IfSome (put_by_level mid (Some o ∷ Some t ∷ []) leaf.0) (λ put. tree_sort put ≡ Some leaf.1)) (free_levels row)
    (each-leaf (λ leaf. IfSome (put_by_level mid (Some o ∷ Some t ∷ []) leaf.0) (λ put. tree_sort put ≡ Some leaf.1)) (IsRowLeaf (sort_at old o) (sort_at old t)) at (free_levels row)
    (over-leaves (IsRowLeaf (sort_at old o) (sort_at old t)) row (row-over (sort_at old o) (sort_at old t) row sorted h)))
  where
    at : (l : ℕ) (s : Sort) → IsRowLeaf (sort_at old o) (sort_at old t) l s → IfSome (put_by_level mid (Some o ∷ Some t ∷ []) l) (λ put. tree_sort put ≡ Some s)
    at zero s k = ap tree_sort (stays-at old mid o g ho) ∙ sort-is (tree_at old o) so ∙ ap (λ y. Some y) (sym k)
    at (suc zero) s k = ap tree_sort (stays-at old mid t g ht) ∙ sort-is (tree_at old t) st ∙ ap (λ y. Some y) (sym k)
    at (suc (suc l)) s k = absurd k
