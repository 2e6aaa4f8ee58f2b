-- What is known of a list of terms, from its terms one by one, and of a term whose leaves have words.
use Rattle.std.proofs.Common.{◌≡◌, ℕ, false, true≢false, List, [], ◌∷◌, ◌++◌, Option, Some, None, Result, Ok, Err, IfOk, is_err, slice_get, subst}
use Rattle.std.specs.Prelude.{IsSomeAnd, All}
use Rattle.std.proofs.lemmas.List.Elements.{All-append, All-nil, All-weaker}
use Rattle.qv_words.specs.declared.op.Op.{Op}
use Rattle.qv_words.specs.declared.sort.Sort.{Sort}
use Rattle.qv_words.specs.declared.word.Word.{Word}
use Rattle.qv_words.specs.Sort.{IsLawful}
use Rattle.qv_words.specs.Word.{word_sort}
use Rattle.qv_words.specs.Tree.{Apply, tree_sort, IsQuantifierFree, AreQuantifierFree}
use Rattle.qv_words.specs.Sorted.{IsSorted, constants_of, constants_of_all, free_levels, free_levels_of_all}
use Rattle.qv_words.specs.Values.{HasWords}
use Rattle.qv_terms.specs.declared.term.Term.{Term}
use Rattle.qv_terms.specs.View.{tree, trees}
use Rattle.qv_terms.proofs.Evaluating.{IsWordAt}
use Rattle.qv_terms.proofs.Sorting.{sorted_term}
use Rattle.qv_words_cases.specs.Ready.{HaveWords}

pub plain-push : (ts : List Term) (t : Term) → AreQuantifierFree (trees ts) → IsQuantifierFree (tree t) → AreQuantifierFree (trees (ts ++ t ∷ []))
plain-push [] t h k = (k, tt)
plain-push (s ∷ ts) t h k = (h.0, plain-push ts t h.1 k)

pub words-push : (consts levels : List Word) (ts : List Term) (t : Term) → HaveWords consts levels (trees ts) → HasWords consts levels (tree t) → HaveWords consts levels (trees (ts ++ t ∷ []))
words-push consts levels [] t h k = (k, tt)
words-push consts levels (s ∷ ts) t h k = (h.0, words-push consts levels ts t h.1 k)

all_constants : (consts levels : List Word) (ts : List Term) → HaveWords consts levels (trees ts) → All (IsWordAt consts) (constants_of_all (trees ts))
all_constants consts levels [] h = All-nil (IsWordAt consts)
all_constants consts levels (t ∷ ts) h =
    All-append (IsWordAt consts) (constants_of (tree t)) (constants_of_all (trees ts)) h.0.constants (all_constants consts levels ts h.1)

all_levels : (consts levels : List Word) (ts : List Term) → HaveWords consts levels (trees ts) → All (IsWordAt levels) (free_levels_of_all (trees ts))
all_levels consts levels [] h = All-nil (IsWordAt levels)
all_levels consts levels (t ∷ ts) h =
    All-append (IsWordAt levels) (free_levels (tree t)) (free_levels_of_all (trees ts)) h.0.levels (all_levels consts levels ts h.1)

-- an application's leaves are those of its arguments
pub words-Apply : (consts levels : List Word) (o : Op) (ts : List Term) → HaveWords consts levels (trees ts) → HasWords consts levels (Apply o (trees ts))
words-Apply consts levels o ts h =
    record { constants = all_constants consts levels ts h; levels = all_levels consts levels ts h }

lawful_word : (o : Option Word) (s : Sort) → IsSomeAnd o (λ w. word_sort w ≡ s) → IsLawful s
lawful_word None s h = absurd h
lawful_word (Some w) s h = subst IsLawful h w.lawful

lawful_leaf : (ws : List Word) (leaf : ℕ × Sort) → IsWordAt ws leaf → IsLawful leaf.1
lawful_leaf ws leaf h = lawful_word (slice_get ws leaf.0) leaf.1 h

-- a term that has a sort and a word for each leaf is sorted
pub sorted-words : (consts levels : List Word) (t : Term) (s : Sort) → IsQuantifierFree (tree t) → HasWords consts levels (tree t) → tree_sort (tree t) ≡ Some s → IsSorted (tree t)
sorted-words consts levels t s plain words e =
    sorted_term t s plain (All-weaker (IsWordAt consts) (λ leaf. IsLawful leaf.1) (lawful_leaf consts) (constants_of (tree t)) words.constants) (All-weaker (IsWordAt levels) (λ leaf. IsLawful leaf.1) (lawful_leaf levels) (free_levels (tree t)) words.levels) e

-- and so it is where its sort was found
pub sorted-found : {E : Type 0} (consts levels : List Word) (t : Term) (r : Result Sort E) → IsQuantifierFree (tree t) → HasWords consts levels (tree t) → IfOk r (λ s. tree_sort (tree t) ≡ Some s) → is_err r ≡ false → IsSorted (tree t)
sorted-found consts levels t (Ok s) plain words e h = sorted-words consts levels t s plain words e
sorted-found consts levels t (Err x) plain words e h = absurd (true≢false h)
