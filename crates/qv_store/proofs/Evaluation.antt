-- Evaluation term by term.
use Rattle.std.proofs.Common.{◌≡◌, ℕ, ◌<◌, ◌≤◌, ◌⊎◌, inl, inr, List, [], ◌∷◌, ◌++◌, length, get_or, slice_get, Option, Some, None, is_some, IsSome, refl, ap, subst, sym, ◌∙◌, arith}
use Rattle.std.specs.Prelude.{All, IsSomeAnd, option_and_then, option_map}
use Rattle.std.specs.List.{AllByRecursion}
use Rattle.std.proofs.lemmas.List.Elements.{recursion_from_All, All-from_recursion, All-head}
use Rattle.std.proofs.lemmas.Option.{slice_get_within, slice_get-map, slice_get-get_or, get_or_from_slice_get}
use Rattle.qv_words.specs.declared.op.Op.{Op}
use Rattle.qv_words.specs.declared.sort.Sort.{Sort}
use Rattle.qv_words.specs.declared.word.Word.{Word}
use Rattle.qv_words.specs.Word.{word_sort, word_value, sorts_of, values_of}
use Rattle.qv_words.specs.Rank.{result_sort}
use Rattle.qv_words.specs.Tree.{Tree, Trees, Constant, Variable, Literal, Apply, ForAll, Exists, Nil, Cons, tree_sorts, IsQuantifierFree, AreQuantifierFree}
use Rattle.qv_words.specs.Sorted.{IsSorted, constants_of, constants_of_all, free_levels, free_levels_of_all, no_levels}
use Rattle.qv_words.specs.Meaning.{MeanAll}
use Rattle.qv_words.proofs.Leaves.{front, back}
use Rattle.qv_words.proofs.Ranks.{too_many_words}
use Rattle.qv_words.proofs.Existing.{has_sort}
use Rattle.qv_words.proofs.Elements.{found-at, pushed-cases, zip-length}
use Rattle.qv_store.specs.Nodes.{tree_at, trees_at}
use Rattle.qv_store.specs.Stores.{children_of}
use Rattle.qv_store.specs.Walks.{IsEarlier, IsFound}
use Rattle.qv_store.specs.Evaluating.{IsWordOf, HasValue, AreWords, AreFound, IsApplied}
use Rattle.qv_store.proofs.Passes.{EachTree}

-- lists of few elements
pub one-of : (xs : List ℕ) (a : ℕ) → 1 ≤ length xs → length xs < 2 → a ≡ get_or xs 0 a → xs ≡ a ∷ []
one-of [] a h k e = absurd (omega (arith, h))
one-of (x ∷ []) a h k e = ap (λ y. y ∷ []) (sym e)
one-of (x ∷ y ∷ xs) a h k e = absurd (omega (arith, k))

pub two-of : (xs : List ℕ) (a b : ℕ) → 2 ≤ length xs → length xs < 3 → a ≡ get_or xs 0 a → b ≡ get_or xs 1 b → xs ≡ a ∷ b ∷ []
two-of [] a b h k e f = absurd (omega (arith, h))
two-of (x ∷ []) a b h k e f = absurd (omega (arith, h))
two-of (x ∷ y ∷ []) a b h k e f = cc
two-of (x ∷ y ∷ z ∷ xs) a b h k e f = absurd (omega (arith, k))

pub three-of : (xs : List ℕ) (a b c : ℕ) → 3 ≤ length xs → length xs < 4 → a ≡ get_or xs 0 a → b ≡ get_or xs 1 b → c ≡ get_or xs 2 c → xs ≡ a ∷ b ∷ c ∷ []
three-of [] a b c h k e f g = absurd (omega (arith, h))
three-of (x ∷ []) a b c h k e f g = absurd (omega (arith, h))
three-of (x ∷ y ∷ []) a b c h k e f g = absurd (omega (arith, h))
three-of (x ∷ y ∷ z ∷ []) a b c h k e f g = cc
three-of (x ∷ y ∷ z ∷ w ∷ xs) a b c h k e f g = absurd (omega (arith, k))

pub none-of : (xs : List ℕ) → length xs < 1 → xs ≡ []
none-of [] h = refl
none-of (x ∷ xs) h = absurd (omega (arith, h))

-- each earlier term has a word
pub all-found : (ids : List ℕ) (words : List Word) (kids : List ℕ) → AllByRecursion (IsEarlier ids (length words)) kids → (args : List Word) × AreFound ids words kids args
all-found ids words [] h = ([], tt)
all-found ids words (k ∷ ks) h =
    let here = found-at words h.0.place h.0.before in
    let rest = all-found ids words ks h.1 in
    (here.0 ∷ rest.0, (record { place = h.0.place; at = h.0.at; found = here.1 }, rest.1))

pub too-many : (op : Op) (ids : List ℕ) (words : List Word) (kids : List ℕ) → 4 ≤ length kids → All (IsEarlier ids (length words)) kids
    → ((args : List Word) → AreFound ids words kids args → IsSome (result_sort op (sorts_of args))) → ⊥
too-many op ids words kids h earlier rank =
    let all = all-found ids words kids (recursion_from_All _ kids earlier) in
    let long = zip-length (IsFound ids words) kids all.0 all.1 in
    too_many_words op all.0 (omega (arith, h, long)) (rank all.0 all.1)

-- the words of arguments mean what they should
module _ (consts places : List Word) (trees : List Tree) (ids : List ℕ) (words : List Word) (right : AreWords consts places trees ids words) where
  args-sorts : (kids : List ℕ) (args : List Word) → AreFound ids words kids args → tree_sorts (trees_at trees kids) ≡ Some (sorts_of args)
  args-sorts [] [] h = refl
  args-sorts [] (w ∷ ws) h = absurd h
  args-sorts (k ∷ ks) [] h = absurd h
  args-sorts (k ∷ ks) (w ∷ ws) h =
      let first = (right h.0.place k w h.0.at h.0.found).sort in
      ap (λ o. option_and_then (λ s. option_map (λ sorts. s ∷ sorts) (tree_sorts (trees_at trees ks))) o) first
      ∙ ap (λ o. option_map (λ (sorts : List Sort). word_sort w ∷ sorts) o) (args-sorts ks ws h.1)

  args-mean : (kids : List ℕ) (args : List Word) → AreFound ids words kids args → MeanAll (values_of consts) (slice_get (values_of places)) (trees_at trees kids) (values_of args)
  args-mean [] [] h = refl
  args-mean [] (w ∷ ws) h = absurd h
  args-mean (k ∷ ks) [] h = absurd h
  args-mean (k ∷ ks) (w ∷ ws) h = (word_value w, values_of ws, (right h.0.place k w h.0.at h.0.found).value, args-mean ks ws h.1, refl)

  -- they have a rank where the application is sorted
  pub args-rank : (op : Op) (kids : List ℕ) (args : List Word) → IsSorted (Apply op (trees_at trees kids)) → AreFound ids words kids args → IsSome (result_sort op (sorts_of args))
  args-rank op kids args sorted h =
      let at = has_sort (Apply op (trees_at trees kids)) no_levels sorted in
      ap is_some (sym (ap (option_and_then (result_sort op)) (args-sorts kids args h)) ∙ at.1)

  pub applied-word : (op : Op) (kids : List ℕ) (w : Word) → IsApplied op ids words kids w → IsWordOf consts places (Apply op (trees_at trees kids)) w
  applied-word op kids w h = record {
    sort = ap (option_and_then (result_sort op)) (args-sorts kids h.args h.found) ∙ h.sort;
    value = (sorts_of h.args, values_of h.args, args-sorts kids h.args h.found, args-mean kids h.args h.found, h.value);
  }

-- words of leaves
abbrev IsWordAt : List Word → ℕ × Sort → Type 0
IsWordAt ws leaf = IsSomeAnd (slice_get ws leaf.0) (λ w. word_sort w ≡ leaf.1)

the_word : (o : Option Word) (s : Sort) → IsSomeAnd o (λ w. word_sort w ≡ s) → (w : Word) × (o ≡ Some w) × (word_sort w ≡ s)
the_word None s h = absurd h
the_word (Some w) s h = (w, refl, h)

leaf-within : (ws : List Word) (i : ℕ) (s : Sort) → All (IsWordAt ws) ((i, s) ∷ []) → i < length ws
leaf-within ws i s h =
    let at = the_word (slice_get ws i) s (All-head (IsWordAt ws) (i, s) [] h) in
    slice_get_within ws i at.0 at.1

leaf-word : (ws : List Word) (i : ℕ) (s : Sort) (w : Word) → All (IsWordAt ws) ((i, s) ∷ []) → w ≡ get_or ws i w → (word_sort w ≡ s) × (slice_get (values_of ws) i ≡ Some (word_value w))
leaf-word ws i s w h at =
    let there = the_word (slice_get ws i) s (All-head (IsWordAt ws) (i, s) [] h) in
    let same : w ≡ there.0 = at ∙ get_or_from_slice_get ws i there.0 w there.1 in
    (ap word_sort same ∙ there.2, slice_get-map word_value ws i ∙ rw there.1 (ap (λ x. Some (word_value x)) (sym same)))

module _ (consts places : List Word) (t : Tree) (value : HasValue consts places t) where
  pub constant-within : (i : ℕ) (s : Sort) → Constant i s ≡ t → i < length consts
  constant-within i s e = leaf-within consts i s (subst (λ u. All (IsWordAt consts) (constants_of u)) (sym e) value.words.constants)

  pub constant-word : (i : ℕ) (s : Sort) (w : Word) → Constant i s ≡ t → w ≡ get_or consts i w → IsWordOf consts places t w
  constant-word i s w e at =
      let here = leaf-word consts i s w (subst (λ u. All (IsWordAt consts) (constants_of u)) (sym e) value.words.constants) at in
      subst (λ u. IsWordOf consts places u w) e (record { sort = ap Some (sym here.0); value = here.1 })

  pub variable-within : (l : ℕ) (s : Sort) → Variable l s ≡ t → l < length places
  variable-within l s e = leaf-within places l s (subst (λ u. All (IsWordAt places) (free_levels u)) (sym e) value.words.levels)

  pub variable-word : (l : ℕ) (s : Sort) (w : Word) → Variable l s ≡ t → w ≡ get_or places l w → IsWordOf consts places t w
  variable-word l s w e at =
      let here = leaf-word places l s w (subst (λ u. All (IsWordAt places) (free_levels u)) (sym e) value.words.levels) at in
      subst (λ u. IsWordOf consts places u w) e (record { sort = ap Some (sym here.0); value = here.1 })

  pub not-quantified : (l : ℕ) (s : Sort) (body : Tree) → (ForAll l s body ≡ t) ⊎ (Exists l s body ≡ t) → ⊥
  not-quantified l s body (inl e) = subst IsQuantifierFree (sym e) value.quantifier_free
  not-quantified l s body (inr e) = subst IsQuantifierFree (sym e) value.quantifier_free

-- children inherit that they have values
inherit-each : (consts places : List Word) (ts : Trees) → AreQuantifierFree ts → AllByRecursion (IsWordAt consts) (constants_of_all ts) → AllByRecursion (IsWordAt places) (free_levels_of_all ts) → EachTree (HasValue consts places) ts
inherit-each consts places Nil free c l = tt
inherit-each consts places (Cons t ts) free c l = (
  record {
    quantifier_free = free.0;
    words = record {
      constants = All-from_recursion (IsWordAt consts) (constants_of t) (front (IsWordAt consts) (constants_of t) (constants_of_all ts) c);
      levels = All-from_recursion (IsWordAt places) (free_levels t) (front (IsWordAt places) (free_levels t) (free_levels_of_all ts) l);
    };
  },
  inherit-each consts places ts free.1 (back (IsWordAt consts) (constants_of t) (constants_of_all ts) c) (back (IsWordAt places) (free_levels t) (free_levels_of_all ts) l),
)

pub inherit-value : (consts places : List Word) (t : Tree) → HasValue consts places t → EachTree (HasValue consts places) (children_of t)
inherit-value consts places (Constant i s) h = tt
inherit-value consts places (Variable l s) h = tt
inherit-value consts places (Literal s n) h = tt
inherit-value consts places (Apply o args) h =
    inherit-each consts places args h.quantifier_free (recursion_from_All _ (constants_of_all args) h.words.constants) (recursion_from_All _ (free_levels_of_all args) h.words.levels)
inherit-value consts places (ForAll l s body) h = absurd h.quantifier_free
inherit-value consts places (Exists l s body) h = absurd h.quantifier_free

-- one word more
pub words-push : (consts places : List Word) (trees : List Tree) (ids : List ℕ) (words : List Word) (n : ℕ) (w : Word) → AreWords consts places trees ids words
    → slice_get ids (length words) ≡ Some n → IsWordOf consts places (tree_at trees n) w → AreWords consts places trees ids (words ++ w ∷ [])
words-push consts places trees ids words n w right at own k m v here there = by (pushed-cases words w k v there)
  where
    by : (slice_get words k ≡ Some v) ⊎ ((k ≡ length words) × (w ≡ v)) → IsWordOf consts places (tree_at trees m) v
    by (inl e) = right k m v here e
    by (inr e) =
        let same : Some n ≡ Some m = sym at ∙ sym (ap (slice_get ids) e.0) ∙ here in
        let one : n ≡ m = cc in
        subst (λ (x : Word). IsWordOf consts places (tree_at trees m) x) e.1 (subst (λ j. IsWordOf consts places (tree_at trees j) w) one own)

pub words-none : (consts places : List Word) (trees : List Tree) (ids : List ℕ) (words : List Word) → words ≡ [] → AreWords consts places trees ids words
words-none consts places trees ids words none k n w at here = let gone : slice_get [] k ≡ Some w = sym (ap (λ ws. slice_get ws k) none) ∙ here in absurd (cc)

-- the item of a loop over the terms of a walk
pub item-at : {R : Type 0} (items ids : List ℕ) (lent results : List R) (i n : ℕ) → items ≡ ids → lent ≡ results → length results ≡ i → i < length items → n ≡ get_or items i n → slice_get ids (length lent) ≡ Some n
item-at items ids lent results i n same read many h at =
    ap (slice_get ids) (ap length read ∙ many) ∙ ap (λ is. slice_get is i) (sym same) ∙ slice_get-get_or items i n h ∙ ap Some (sym at)
