-- Each term of a walk whose terms have values where their children do has one.
use Rattle.std.proofs.Common.{◌≡◌, ℕ, ◌<◌, ◌≤◌, List, [], length, get_or, slice_get, Some, refl, subst, sym, arith}
use Rattle.std.specs.Prelude.{All}
use Rattle.std.proofs.lemmas.List.{length-map}
use Rattle.std.proofs.lemmas.List.Elements.{All-append, All-nil, All-cons}
use Rattle.std.proofs.lemmas.Option.{slice_get_within, slice_get-get_or}
use Rattle.qv_words.specs.declared.word.Word.{Word}
use Rattle.qv_words.specs.Tree.{Tree, Trees, Constant, Variable, Literal, Apply, ForAll, Exists, Nil, Cons, IsQuantifierFree, AreQuantifierFree}
use Rattle.qv_words.specs.Sorted.{constants_of, constants_of_all, free_levels, free_levels_of_all}
use Rattle.qv_store.specs.Nodes.{tree_at}
use Rattle.qv_store.specs.Stores.{StandsAt, AreBelow, AreShared, children_of}
use Rattle.qv_store.specs.Walks.{IsWalk, named}
use Rattle.qv_store.specs.Evaluating.{HasValue, HaveValues}
use Rattle.qv_store.proofs.Passes.{named-at}
use Rattle.qv_solve_offer.specs.Valued.{IsWordAt, IsValuedIn}

module _ (consts : List Word) (trees : List Tree) (shared : AreShared trees) (valued : (n : ℕ) → n < length trees → IsValuedIn consts (tree_at trees n)) where
  own : (t : Tree) (n : ℕ) → StandsAt trees n t → IsValuedIn consts t
  own t n at = subst (IsValuedIn consts) at.tree (valued n at.below)

  below : (t : Tree) (n : ℕ) → StandsAt trees n t → AreBelow trees n (children_of t)
  below t n at = subst (λ u. AreBelow trees n (children_of u)) at.tree (shared.children n at.below)

  mutual
    -- it has no quantifiers, and its leaves have words
    leaves : (t : Tree) (n : ℕ) → StandsAt trees n t → IsQuantifierFree t × All (IsWordAt consts) (constants_of t) × All (IsWordAt []) (free_levels t)
    leaves (Constant i s) n at = (tt, All-cons (IsWordAt consts) (i, s) [] (own (Constant i s) n at) (All-nil (IsWordAt consts)), All-nil (IsWordAt []))
    leaves (Variable l s) n at = absurd (own (Variable l s) n at)
    leaves (Literal s v) n at = (tt, All-nil (IsWordAt consts), All-nil (IsWordAt []))
    leaves (Apply o args) n at = leaves-all args n (below (Apply o args) n at)
    leaves (ForAll l s body) n at = absurd (own (ForAll l s body) n at)
    leaves (Exists l s body) n at = absurd (own (Exists l s body) n at)

    leaves-all : (ts : Trees) (n : ℕ) → AreBelow trees n ts → AreQuantifierFree ts × All (IsWordAt consts) (constants_of_all ts) × All (IsWordAt []) (free_levels_of_all ts)
    leaves-all Nil n b = (tt, All-nil (IsWordAt consts), All-nil (IsWordAt []))
    leaves-all (Cons t ts) n b =
        let first = leaves t b.0.0 b.0.2 in
        let rest = leaves-all ts n b.1 in (
          (first.0, rest.0),
          All-append (IsWordAt consts) (constants_of t) (constants_of_all ts) first.1 rest.1,
          All-append (IsWordAt []) (free_levels t) (free_levels_of_all ts) first.2 rest.2,
        )

  value : (n : ℕ) → n < length trees → HasValue consts [] (tree_at trees n)
  value n low =
      let all = leaves (tree_at trees n) n (record { below = low; tree = refl }) in
      record { quantifier_free = all.0; words = record { constants = all.1; levels = all.2 } }

-- what was looked at of the first n terms of a walk
abbrev pub AreValued : List Word → List Tree → List ℕ → ℕ → Type 0
AreValued consts trees ids n = (k id : ℕ) → k < n → slice_get ids k ≡ Some id → IsValuedIn consts (tree_at trees id)

pub valued-all : (consts : List Word) (trees : List Tree) (ids : List ℕ) (n : ℕ) → length ids ≤ n → AreValued consts trees ids n → AreValued consts trees ids (length ids)
valued-all consts trees ids n all h k id low at = h k id (omega (arith, low, all)) at

at-place : (consts : List Word) (trees : List Tree) (ids : List ℕ) → AreValued consts trees ids (length ids) → (n : ℕ) → n < length ids → IsValuedIn consts (tree_at (named trees ids) n)
at-place consts trees ids valued n low =
    let here = slice_get-get_or ids n 0 low in
    subst (IsValuedIn consts) (sym (named-at trees ids n (get_or ids n 0) here)) (valued n (get_or ids n 0) low here)

-- so each has a value
pub have-values : (consts : List Word) (trees : List Tree) (ids : List ℕ) → IsWalk trees ids → AreValued consts trees ids (length ids) → HaveValues consts [] trees ids
have-values consts trees ids walk valued k id at =
    let long = length-map ids (tree_at trees) in
    let within = slice_get_within ids k id at in
    let each : (n : ℕ) → n < length (named trees ids) → IsValuedIn consts (tree_at (named trees ids) n) = λ n low. at-place consts trees ids valued n (omega (arith, low, long)) in
    subst (HasValue consts []) (named-at trees ids k id at) (value consts (named trees ids) walk.shared each k (omega (arith, within, long)))
