-- From what all constants and variables of a store are to those of one term.
use Rattle.std.proofs.Common.{◌≡◌, ℕ, ◌<◌, ◌==◌, ◌⊎◌, inl, inr, Bool, true, false, List, [], length, Option, Some, None, refl, subst, sym}
use Rattle.std.specs.Prelude.{All, IfSome, if◌then◌else◌}
use Rattle.std.proofs.lemmas.List.Elements.{All-append, All-nil, All-cons}
use Rattle.qv_words.specs.declared.sort.Sort.{Sort}
use Rattle.qv_words.specs.declared.word.Word.{Word}
use Rattle.qv_words.specs.Tree.{Tree, Trees, Constant, Variable, Literal, Apply, ForAll, Exists, Nil, Cons, IsQuantifierFree, AreQuantifierFree}
use Rattle.qv_words.specs.Sorted.{IsSortedBelow, AreSortedBelow, with_level, no_levels, constants_of, constants_of_all, free_levels, free_levels_of_all}
use Rattle.qv_words.specs.Values.{HasWords}
use Rattle.qv_words.specs.Replacement.{HasTheirSorts}
use Rattle.qv_words.proofs.Equals.{eq-from_test}
use Rattle.qv_store.specs.Nodes.{tree_at}
use Rattle.qv_store.specs.Stores.{StandsAt, AreBelow, AreShared, children_of}
use Rattle.qv_store.specs.Replacing.{put_by_level}
use Rattle.qv_cases_terms.specs.Leaves.{IsFit, AreFitBelow, IsAny, IsWordAt, IsPutAt, IsOfLevel}

module _ (P Q : ℕ × Sort → Type 0) (trees : List Tree) (shared : AreShared trees) (fit : AreFitBelow P Q trees (length trees)) where
  own : (t : Tree) (n : ℕ) → StandsAt trees n t → IsFit P Q t
  own t n at = subst (IsFit P Q) at.tree (fit n at.below)

  below : (t : Tree) (n : ℕ) → StandsAt trees n t → AreBelow trees n (children_of t)
  below t n at = subst (λ u. AreBelow trees n (children_of u)) at.tree (shared.children n at.below)

  mutual
    -- the leaves of a term without quantifiers
    leaves : (t : Tree) (n : ℕ) → StandsAt trees n t → IsQuantifierFree t → All P (constants_of t) × All Q (free_levels t)
    leaves (Constant i s) n at q = (All-cons P (i, s) [] (own (Constant i s) n at) (All-nil P), All-nil Q)
    leaves (Variable l s) n at q = (All-nil P, All-cons Q (l, s) [] (own (Variable l s) n at) (All-nil Q))
    leaves (Literal s v) n at q = (All-nil P, All-nil Q)
    leaves (Apply o args) n at q = leaves-all args n (below (Apply o args) n at) q
    leaves (ForAll l s body) n at q = absurd q
    leaves (Exists l s body) n at q = absurd q

    leaves-all : (ts : Trees) (n : ℕ) → AreBelow trees n ts → AreQuantifierFree ts → All P (constants_of_all ts) × All Q (free_levels_of_all ts)
    leaves-all Nil n b q = (All-nil P, All-nil Q)
    leaves-all (Cons t ts) n b q =
        let first = leaves t b.0.0 b.0.2 q.0 in
        let rest = leaves-all ts n b.1 q.1 in
        (All-append P (constants_of t) (constants_of_all ts) first.0 rest.0, All-append Q (free_levels t) (free_levels_of_all ts) first.1 rest.1)

-- a term that may be evaluated
pub has-words : (consts places : List Word) (trees : List Tree) (n : ℕ) → AreShared trees → AreFitBelow (IsWordAt consts) (IsWordAt places) trees (length trees) → n < length trees → IsQuantifierFree (tree_at trees n)
    → HasWords consts places (tree_at trees n)
has-words consts places trees n shared fit low plain =
    let all = leaves (IsWordAt consts) (IsWordAt places) trees shared fit (tree_at trees n) n (record { below = low; tree = refl }) plain in
    record { constants = all.0; levels = all.1 }

-- a term in which terms may be put
pub has-their-sorts : (terms : List (Option ℕ)) (trees : List Tree) (n : ℕ) → AreShared trees → AreFitBelow IsAny (IsPutAt trees terms) trees (length trees) → n < length trees → IsQuantifierFree (tree_at trees n)
    → HasTheirSorts (put_by_level trees terms) (tree_at trees n)
has-their-sorts terms trees n shared fit low plain =
    (leaves IsAny (IsPutAt trees terms) trees shared fit (tree_at trees n) n (record { below = low; tree = refl }) plain).1

-- the sorts of levels that differ at one level at most
abbrev IsLike : ℕ → Sort → (ℕ → Option Sort) → (ℕ → Option Sort) → Type 0
IsLike l s e f = (k : ℕ) → (f k ≡ e k) ⊎ ((k ≡ l) × (f k ≡ Some s))

chosen : (b : Bool) (r s : Sort) (u v : Option Sort) (A : Type 0) → (u ≡ v) ⊎ (A × (u ≡ Some s)) → ((if b then Some r else u) ≡ (if b then Some r else v)) ⊎ (A × ((if b then Some r else u) ≡ Some s))
chosen true r s u v A h = inl refl
chosen false r s u v A h = h

like-below : (l : ℕ) (s : Sort) (e f : ℕ → Option Sort) (m : ℕ) (r : Sort) → IsLike l s e f → IsLike l s (with_level e m r) (with_level f m r)
like-below l s e f m r h k = chosen (k == m) r s (f k) (e k) (k ≡ l) (h k)

like-first : (l : ℕ) (s : Sort) → IsLike l s no_levels (with_level no_levels l s)
like-first l s k = by (k == l) refl
  where
    by : (b : Bool) → (k == l) ≡ b → ((if b then Some s else None) ≡ None) ⊎ ((k ≡ l) × ((if b then Some s else None) ≡ Some s))
    by true e = inr (eq-from_test k l e, refl)
    by false e = inl refl

module _ (l : ℕ) (s : Sort) (trees : List Tree) (shared : AreShared trees) (fit : AreFitBelow IsAny (IsOfLevel l s) trees (length trees)) where
  level-fits : (k : ℕ) (r : Sort) (o u : Option Sort) → (k ≡ l → r ≡ s) → IfSome u (λ bound. r ≡ bound) → (o ≡ u) ⊎ ((k ≡ l) × (o ≡ Some s)) → IfSome o (λ bound. r ≡ bound)
  level-fits k r o u own h (inl e) = subst (λ x. IfSome x (λ bound. r ≡ bound)) (sym e) h
  level-fits k r o u own h (inr e) = subst (λ x. IfSome x (λ bound. r ≡ bound)) (sym e.1) (own e.0)

  mutual
    sorted-like : (t : Tree) (n : ℕ) → StandsAt trees n t → (e f : ℕ → Option Sort) → IsLike l s e f → IsSortedBelow e t → IsSortedBelow f t
    sorted-like (Constant i r) n at e f like h = h
    sorted-like (Variable k r) n at e f like h =
        (h.0, level-fits k r (f k) (e k) (own IsAny (IsOfLevel l s) trees shared fit (Variable k r) n at) h.1 (like k))
    sorted-like (Literal r v) n at e f like h = h
    sorted-like (Apply o args) n at e f like h =
        (sorted-like-all args n (below IsAny (IsOfLevel l s) trees shared fit (Apply o args) n at) e f like h.0, h.1)
    sorted-like (ForAll k r body) n at e f like h =
        let b = (below IsAny (IsOfLevel l s) trees shared fit (ForAll k r body) n at).0 in
        (h.0, sorted-like body b.0 b.2 (with_level e k r) (with_level f k r) (like-below l s e f k r like) h.1, h.2)
    sorted-like (Exists k r body) n at e f like h =
        let b = (below IsAny (IsOfLevel l s) trees shared fit (Exists k r body) n at).0 in
        (h.0, sorted-like body b.0 b.2 (with_level e k r) (with_level f k r) (like-below l s e f k r like) h.1, h.2)

    sorted-like-all : (ts : Trees) (n : ℕ) → AreBelow trees n ts → (e f : ℕ → Option Sort) → IsLike l s e f → AreSortedBelow e ts → AreSortedBelow f ts
    sorted-like-all Nil n b e f like h = tt
    sorted-like-all (Cons t ts) n b e f like h = (sorted-like t b.0.0 b.0.2 e f like h.0, sorted-like-all ts n b.1 e f like h.1)

  -- a body that may be quantified
  pub sorted-body : (n : ℕ) → n < length trees → IsSortedBelow (with_level no_levels l s) (tree_at trees n)
  sorted-body n low =
      sorted-like (tree_at trees n) n (record { below = low; tree = refl }) no_levels (with_level no_levels l s) (like-first l s) (shared.sorted n low)
