-- What evaluation needs of a term and its arguments, and what it finds.
use Rattle.std.proofs.Common.{◌≡◌, ◌≢◌, ⊎_elim, true≢false, is_some, ℕ, zero, suc, ◌+◌, ◌<◌, ◌≤◌, List, [], ◌∷◌, length, get_or, set, take, Option, Some, None, refl, sym, ap, ◌∙◌, subst, arith, below_more, slice_get}
use Rattle.std.specs.Prelude.{IsSomeAnd, IsSome, All, option_and_then}
use Rattle.std.specs.List.{AllByRecursion}
use Rattle.std.proofs.lemmas.Bool.{cases_lt}
use Rattle.std.proofs.lemmas.List.{get_or-set_same, get_or-set_other, get_or_default}
use Rattle.std.proofs.lemmas.List.Elements.{All-head, All-from_recursion, recursion_from_All}
use Rattle.std.proofs.lemmas.Option.{slice_get_within, slice_get-map, get_or_from_slice_get}
use Rattle.qv_words.specs.declared.op.Op.{Op}
use Rattle.qv_words.specs.declared.sort.Sort.{Sort}
use Rattle.qv_words.specs.declared.word.Word.{Word}
use Rattle.qv_words.specs.Word.{word_sort, word_value, sorts_of, values_of}
use Rattle.qv_words.specs.Op.{op_value}
use Rattle.qv_words.specs.Rank.{result_sort}
use Rattle.qv_words.specs.Tree.{Tree, Apply, tree_sort, tree_sorts, IsQuantifierFree, AreQuantifierFree}
use Rattle.qv_words.specs.Sorted.{IsSorted, AreSortedBelow, no_levels, constants_of, constants_of_all, free_levels, free_levels_of_all}
use Rattle.qv_words.specs.Meaning.{MeanAll}
use Rattle.qv_words.specs.Values.{HasWords, MeansUnder}
use Rattle.qv_words.proofs.Leaves.{front, back}
use Rattle.qv_terms.specs.declared.term.Term.{Term}
use Rattle.qv_terms.specs.View.{tree, trees}
use Rattle.qv_terms.proofs.Rows.{too_many}

-- the leaf has a word of its sort
abbrev pub IsWordAt : List Word → ℕ × Sort → Type 0
IsWordAt ws leaf = IsSomeAnd (slice_get ws leaf.0) (λ w. word_sort w ≡ leaf.1)

-- and that is the word
the_word : (o : Option Word) (s : Sort) → IsSomeAnd o (λ w. word_sort w ≡ s) → (w : Word) × (o ≡ Some w) × (word_sort w ≡ s)
the_word None s h = absurd h
the_word (Some w) s h = (w, refl, h)

-- a leaf's word is in the list
pub leaf_within : (ws : List Word) (i : ℕ) (s : Sort) → All (IsWordAt ws) ((i, s) ∷ []) → i < length ws
leaf_within ws i s h =
    let found = the_word (slice_get ws i) s (All-head (IsWordAt ws) (i, s) [] h) in
    slice_get_within ws i found.0 found.1

-- what is read there has the leaf's sort, and is its value
pub leaf_word : (ws : List Word) (i : ℕ) (s : Sort) (w : Word) → All (IsWordAt ws) ((i, s) ∷ []) → w ≡ get_or ws i w → (word_sort w ≡ s) × (slice_get (values_of ws) i ≡ Some (word_value w))
leaf_word ws i s w h at =
    let found = the_word (slice_get ws i) s (All-head (IsWordAt ws) (i, s) [] h) in
    let same : w ≡ found.0 = at ∙ get_or_from_slice_get ws i found.0 w found.1 in
    (ap word_sort same ∙ found.2, slice_get-map word_value ws i ∙ rw found.1 (ap (λ x. Some (word_value x)) (sym same)))

-- an argument of a sorted application is sorted, and so on
sorted_at : (ts : List Term) (i : ℕ) (d : Term) → i < length ts → AreSortedBelow no_levels (trees ts) → IsSorted (tree (get_or ts i d))
sorted_at [] i d h s = absurd (omega (arith, h))
sorted_at (t ∷ ts) zero d h s = s.0
sorted_at (t ∷ ts) (suc i) d h s = sorted_at ts i d (omega (arith, h)) s.1

pub plain_at : (ts : List Term) (i : ℕ) (d : Term) → i < length ts → AreQuantifierFree (trees ts) → IsQuantifierFree (tree (get_or ts i d))
plain_at [] i d h s = absurd (omega (arith, h))
plain_at (t ∷ ts) zero d h s = s.0
plain_at (t ∷ ts) (suc i) d h s = plain_at ts i d (omega (arith, h)) s.1

constants_at : (P : ℕ × Sort → Type 0) (ts : List Term) (i : ℕ) (d : Term) → i < length ts → AllByRecursion P (constants_of_all (trees ts)) → AllByRecursion P (constants_of (tree (get_or ts i d)))
constants_at P [] i d h s = absurd (omega (arith, h))
constants_at P (t ∷ ts) zero d h s = front P (constants_of (tree t)) (constants_of_all (trees ts)) s
constants_at P (t ∷ ts) (suc i) d h s =
    constants_at P ts i d (omega (arith, h)) (back P (constants_of (tree t)) (constants_of_all (trees ts)) s)

levels_at : (P : ℕ × Sort → Type 0) (ts : List Term) (i : ℕ) (d : Term) → i < length ts → AllByRecursion P (free_levels_of_all (trees ts)) → AllByRecursion P (free_levels (tree (get_or ts i d)))
levels_at P [] i d h s = absurd (omega (arith, h))
levels_at P (t ∷ ts) zero d h s = front P (free_levels (tree t)) (free_levels_of_all (trees ts)) s
levels_at P (t ∷ ts) (suc i) d h s =
    levels_at P ts i d (omega (arith, h)) (back P (free_levels (tree t)) (free_levels_of_all (trees ts)) s)

words_at : (consts places : List Word) (o : Op) (ts : List Term) (i : ℕ) (d : Term) → i < length ts → HasWords consts places (Apply o (trees ts)) → HasWords consts places (tree (get_or ts i d))
words_at consts places o ts i d h s = record {
  constants = All-from_recursion (IsWordAt consts) (constants_of (tree (get_or ts i d))) (constants_at (IsWordAt consts) ts i d h (recursion_from_All (IsWordAt consts) (constants_of_all (trees ts)) s.constants));
  levels = All-from_recursion (IsWordAt places) (free_levels (tree (get_or ts i d))) (levels_at (IsWordAt places) ts i d h (recursion_from_All (IsWordAt places) (free_levels_of_all (trees ts)) s.levels));
}

-- what evaluation needs of a tree
pub record IsReady (consts places : List Word) (t : Tree) : Type 0 where
  pub sorted : IsSorted t
  pub quantifier_free : IsQuantifierFree t
  pub words : HasWords consts places t

-- each argument of an application has it
pub ready_at : (consts places : List Word) (o : Op) (ts : List Term) (i : ℕ) (t : Term) → i < length ts → t ≡ get_or ts i t → IsReady consts places (Apply o (trees ts)) → IsReady consts places (tree t)
ready_at consts places o ts i t h at r =
    subst (λ x. IsReady consts places (tree x)) (sym at) (record {
      sorted = sorted_at ts i t h r.sorted.0;
      quantifier_free = plain_at ts i t h r.quantifier_free;
      words = words_at consts places o ts i t h r.words;
    })

-- an application with a rank has at most three arguments
pub few : (o : Op) (ts : List Term) → IsSome (tree_sort (Apply o (trees ts))) → length ts ≤ 3
few o ts h = ⊎_elim (λ many. let none : tree_sort (Apply o (trees ts)) ≡ None = too_many o ts many in absurd (true≢false (sym h ∙ ap is_some none))) (λ k. k) (cases_lt 3 (length ts))

-- the word is of the tree's sort, and what it means
pub record IsValue (consts places : List Word) (t : Tree) (w : Word) : Type 0 where
  pub sort : tree_sort t ≡ Some (word_sort w)
  pub value : MeansUnder consts places t (word_value w)

-- the word of the next argument goes into its place
pub values-more : (consts places : List Word) (ts : List Term) (ws : List Word) (i : ℕ) (t : Term) (w : Word) → i < length ts → i < length ws → t ≡ get_or ts i t → IsValue consts places (tree t) w → ((k : ℕ) (d : Term) (v : Word) → k < i → IsValue consts places (tree (get_or ts k d)) (get_or ws k v)) → (k : ℕ) (d : Term) (v : Word) → k < i + 1 → IsValue consts places (tree (get_or ts k d)) (get_or (set ws i w) k v)
values-more consts places ts ws i t w in_terms in_words at value before k d v h =
    let P : ℕ → Type 0 = λ k. (d : Term) (v : Word) → IsValue consts places (tree (get_or ts k d)) (get_or (set ws i w) k v) in
    let earlier : (k : ℕ) → k < i → P k = λ k h d v. let other : k ≢ i = omega arith in rw get_or-set_other (before k d v h) in
    let here : P i = λ d v.
    subst (λ x. IsValue consts places (tree (get_or ts i d)) x) (sym (get_or-set_same ws i w v in_words))
    (subst (λ x. IsValue consts places (tree x) w) (at ∙ get_or_default ts i t d in_terms) value) in
    below_more P i earlier here k h d v

-- the words of all arguments
pub values-each : (consts places : List Word) (ts : List Term) (ws : List Word) → length ts ≤ length ws → ((k : ℕ) (d : Term) (v : Word) → k < length ts → IsValue consts places (tree (get_or ts k d)) (get_or ws k v)) → (tree_sorts (trees ts) ≡ Some (sorts_of (take (length ts) ws))) × MeanAll (values_of consts) (slice_get (values_of places)) (trees ts) (values_of (take (length ts) ws))
values-each consts places [] ws long each = (refl, refl)
values-each consts places (t ∷ ts) [] long each = absurd (omega (arith, long))
values-each consts places (t ∷ ts) (w ∷ ws) long each =
    let first : IsValue consts places (tree t) w = each 0 t w (omega arith) in
    let others = values-each consts places ts ws (omega (arith, long)) (λ k d v h. each (suc k) d v (omega (arith, h))) in
    (rw (first.sort, others.0), (word_value w, values_of (take (length ts) ws), first.value, others.1, refl))

-- an application's value, from those of its arguments
pub value-Apply : (consts places : List Word) (o : Op) (ts : List Term) (ws : List Word) (r : Word) → length ts ≤ length ws → ((k : ℕ) (d : Term) (v : Word) → k < length ts → IsValue consts places (tree (get_or ts k d)) (get_or ws k v)) → result_sort o (sorts_of (take (length ts) ws)) ≡ Some (word_sort r) → word_value r ≡ op_value o (sorts_of (take (length ts) ws)) (values_of (take (length ts) ws)) → IsValue consts places (Apply o (trees ts)) r
value-Apply consts places o ts ws r long each sort value =
    let known = values-each consts places ts ws long each in
    record {
      sort = ap (option_and_then (result_sort o)) known.0 ∙ sort;
      value = (sorts_of (take (length ts) ws), values_of (take (length ts) ws), known.0, known.1, value);
    }

-- its operator has a rank there
pub rank-Apply : (consts places : List Word) (o : Op) (ts : List Term) (ws : List Word) → length ts ≤ length ws → ((k : ℕ) (d : Term) (v : Word) → k < length ts → IsValue consts places (tree (get_or ts k d)) (get_or ws k v)) → IsSome (tree_sort (Apply o (trees ts))) → IsSome (result_sort o (sorts_of (take (length ts) ws)))
rank-Apply consts places o ts ws long each h =
    let known = values-each consts places ts ws long each in
    subst (λ x. IsSome (option_and_then (result_sort o) x)) known.0 h
