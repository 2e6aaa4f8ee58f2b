-- A term without quantifiers and constants, with terms put in that mean the values of its variables.
use Rattle.std.proofs.Common.{◌≡◌, ℕ, Option, Some, None, [], sym, subst}
use Rattle.std.specs.Prelude.{IfSome, IsSomeAnd, MatchOption}
use Rattle.std.specs.List.{AllByRecursion}
use Rattle.std.proofs.lemmas.List.Elements.{All-from_recursion}
use Rattle.qv_words.specs.declared.sort.Sort.{Sort}
use Rattle.qv_words.specs.Tree.{Tree, tree_sort}
use Rattle.qv_words.specs.Sorted.{HasValues, IsSorted, constants_of, free_levels}
use Rattle.qv_words.specs.Meaning.{Means}
use Rattle.qv_words.specs.Replacement.{replaced}
use Rattle.qv_words.specs.Skolem.{IsTermOf}
use Rattle.qv_words.proofs.Leaves.{HasValue}
use Rattle.qv_words.proofs.Existing.{HasConstant}
use Rattle.qv_words.proofs.Replacing.{HasItsSort, TakesItsMeaning, same_sort, same_value, same_value_back}
use Rattle.qv_words.proofs.Replaced.{IsSortedPut, HoldsPut, HoldsInPut, stays-sorted, variables-put, constants-put}
use Rattle.qv_words.proofs.Elements.{all-none, all-weaker, to-some}

-- what is put in at a leaf fits there, and means under e what f has there
pub record IsFit (b : ℕ → Option Tree) (e f : ℕ → Option ℕ) (leaf : ℕ × Sort) : Type 0 where
  pub sort : HasItsSort b leaf
  pub sorted : IsSortedPut b leaf
  pub takes : TakesItsMeaning [] b e f leaf
  pub values : HoldsPut (HasValue e) b leaf
  pub constants : HoldsInPut (HasConstant []) b leaf

-- a leaf where nothing is put in
pub fit-free : (b : ℕ → Option Tree) (e f : ℕ → Option ℕ) (leaf : ℕ × Sort) → b leaf.0 ≡ None → f leaf.0 ≡ e leaf.0 → HasValue e leaf → IsFit b e f leaf
fit-free b e f leaf none same value = record {
  sort = subst (λ (o : Option Tree). IfSome o (λ put. tree_sort put ≡ Some leaf.1)) (sym none) tt;
  sorted = subst (λ (o : Option Tree). IfSome o IsSorted) (sym none) tt;
  takes = subst (λ (o : Option Tree). MatchOption o (f leaf.0 ≡ e leaf.0) (λ put. IsSomeAnd (f leaf.0) (λ v. Means [] e put v))) (sym none) same;
  values = subst (λ (o : Option Tree). MatchOption o (HasValue e leaf) (λ put. AllByRecursion (HasValue e) (free_levels put))) (sym none) value;
  constants = subst (λ (o : Option Tree). IfSome o (λ put. AllByRecursion (HasConstant []) (constants_of put))) (sym none) tt;
}

-- a leaf where a term is put in
pub fit-put : (b : ℕ → Option Tree) (e f : ℕ → Option ℕ) (leaf : ℕ × Sort) (t : Tree) (v : ℕ) → b leaf.0 ≡ Some t → IsTermOf t leaf.1 → f leaf.0 ≡ Some v → Means [] e t v → AllByRecursion (HasValue e) (free_levels t) → IsFit b e f leaf
fit-put b e f leaf t v put term at means values = record {
  sort = subst (λ (o : Option Tree). IfSome o (λ u. tree_sort u ≡ Some leaf.1)) (sym put) term.sort;
  sorted = subst (λ (o : Option Tree). IfSome o IsSorted) (sym put) term.sorted;
  takes = subst (λ (o : Option Tree). MatchOption o (f leaf.0 ≡ e leaf.0) (λ u. IsSomeAnd (f leaf.0) (λ w. Means [] e u w))) (sym put) (to-some (f leaf.0) (λ w. Means [] e t w) v at means);
  values = subst (λ (o : Option Tree). MatchOption o (HasValue e leaf) (λ u. AllByRecursion (HasValue e) (free_levels u))) (sym put) values;
  constants = subst (λ (o : Option Tree). IfSome o (λ u. AllByRecursion (HasConstant []) (constants_of u))) (sym put) (all-none (HasConstant []) (constants_of t) term.constant_free);
}

-- the whole, where everything fits
pub record IsWhole (b : ℕ → Option Tree) (e f : ℕ → Option ℕ) (t : Tree) (s : Sort) : Type 0 where
  pub sorted : IsSorted (replaced b t)
  pub sort : tree_sort (replaced b t) ≡ Some s
  pub constants : AllByRecursion (HasConstant []) (constants_of (replaced b t))
  pub levels : AllByRecursion (HasValue e) (free_levels (replaced b t))
  pub there : (v : ℕ) → Means [] f t v → Means [] e (replaced b t) v
  pub back : (v : ℕ) → Means [] e (replaced b t) v → Means [] f t v

pub whole : (b : ℕ → Option Tree) (e f : ℕ → Option ℕ) (t : Tree) (s : Sort) → IsTermOf t s → AllByRecursion (IsFit b e f) (free_levels t) → IsWhole b e f t s
whole b e f t s term fits =
    let sorts = all-weaker (IsFit b e f) (HasItsSort b) (free_levels t) (λ leaf h. h.sort) fits in
    let takes = all-weaker (IsFit b e f) (TakesItsMeaning [] b e f) (free_levels t) (λ leaf h. h.takes) fits in
    record {
      sorted = stays-sorted t b term.quantifier_free sorts term.sorted (all-weaker (IsFit b e f) (IsSortedPut b) (free_levels t) (λ leaf h. h.sorted) fits);
      sort = subst (λ (o : Option Sort). o ≡ Some s) (sym (same_sort t b term.quantifier_free sorts)) term.sort;
      constants = constants-put (HasConstant []) t b term.quantifier_free (all-none (HasConstant []) (constants_of t) term.constant_free) (all-weaker (IsFit b e f) (HoldsInPut (HasConstant []) b) (free_levels t) (λ leaf h. h.constants) fits);
      levels = variables-put (HasValue e) t b term.quantifier_free (all-weaker (IsFit b e f) (HoldsPut (HasValue e) b) (free_levels t) (λ leaf h. h.values) fits);
      there = λ v m. same_value t [] b e f v term.quantifier_free sorts takes m;
      back = λ v m. same_value_back t [] b e f v term.quantifier_free sorts takes m;
    }

-- its variables and constants have values
pub whole-values : (b : ℕ → Option Tree) (e f : ℕ → Option ℕ) (t : Tree) (s : Sort) → IsWhole b e f t s → HasValues [] e (replaced b t)
whole-values b e f t s h = record {
  constants = All-from_recursion (HasConstant []) (constants_of (replaced b t)) h.constants;
  levels = All-from_recursion (HasValue e) (free_levels (replaced b t)) h.levels;
}
