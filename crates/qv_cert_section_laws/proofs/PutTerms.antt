-- A term with terms put in is a term.
use Rattle.std.proofs.Common.{◌≡◌, ℕ, Option, Some, None, List, [], ◌∷◌, ◌++◌, IsSome, refl, sym, ap, ◌∙◌, subst}
use Rattle.std.specs.Prelude.{IfSome, MatchOption, option_and_then, option_map}
use Rattle.std.specs.List.{AllByRecursion}
use Rattle.qv_words.specs.declared.sort.Sort.{Sort}
use Rattle.qv_words.specs.declared.sort.Sort.TheVariants.{Bool as BoolSort}
use Rattle.qv_words.specs.declared.op.Op.TheVariants.{Not}
use Rattle.qv_words.specs.Rank.{result_sort}
use Rattle.qv_words.specs.Tree.{Tree, Nil, tree_sort, tree_sorts, IsQuantifierFree}
use Rattle.qv_words.specs.Sorted.{IsSorted, constants_of, free_levels}
use Rattle.qv_words.specs.Replacement.{replaced}
use Rattle.qv_words.specs.Prenex.{negation}
use Rattle.qv_words.specs.Skolem.{IsTermOf}
use Rattle.qv_words.proofs.Replacing.{HasItsSort, same_sort}
use Rattle.qv_words.proofs.Replaced.{IsSortedPut, IsPlainPut, HoldsPut, HoldsInPut, stays-sorted, stays-plain, variables-put, constants-put}
use Rattle.qv_words.proofs.Elements.{all-none, all-weaker}

-- at a leaf a term of its sort is put in, over variables of which P holds, or nothing and P holds of it
abbrev pub IsTermThere : (ℕ × Sort → Type 0) → (ℕ → Option Tree) → ℕ × Sort → Type 0
IsTermThere P b leaf = MatchOption (b leaf.0) (P leaf) (λ put. IsTermOf put leaf.1 × AllByRecursion P (free_levels put))

-- no leaf
abbrev pub Nothing : ℕ × Sort → Type 0
Nothing leaf = ⊥

sort-of : (P : ℕ × Sort → Type 0) (o : Option Tree) (leaf : ℕ × Sort) → MatchOption o (P leaf) (λ put. IsTermOf put leaf.1 × AllByRecursion P (free_levels put)) → IfSome o (λ put. tree_sort put ≡ Some leaf.1)
sort-of P None leaf h = tt
sort-of P (Some put) leaf h = h.0.sort

sorted-of : (P : ℕ × Sort → Type 0) (o : Option Tree) (leaf : ℕ × Sort) → MatchOption o (P leaf) (λ put. IsTermOf put leaf.1 × AllByRecursion P (free_levels put)) → IfSome o IsSorted
sorted-of P None leaf h = tt
sorted-of P (Some put) leaf h = h.0.sorted

plain-of : (P : ℕ × Sort → Type 0) (o : Option Tree) (leaf : ℕ × Sort) → MatchOption o (P leaf) (λ put. IsTermOf put leaf.1 × AllByRecursion P (free_levels put)) → IfSome o IsQuantifierFree
plain-of P None leaf h = tt
plain-of P (Some put) leaf h = h.0.quantifier_free

constants-in : (P : ℕ × Sort → Type 0) (o : Option Tree) (leaf : ℕ × Sort) → MatchOption o (P leaf) (λ put. IsTermOf put leaf.1 × AllByRecursion P (free_levels put)) → IfSome o (λ put. AllByRecursion Nothing (constants_of put))
constants-in P None leaf h = tt
constants-in P (Some put) leaf h = all-none Nothing (constants_of put) h.0.constant_free

variables-in : (P : ℕ × Sort → Type 0) (o : Option Tree) (leaf : ℕ × Sort) → MatchOption o (P leaf) (λ put. IsTermOf put leaf.1 × AllByRecursion P (free_levels put)) → MatchOption o (P leaf) (λ put. AllByRecursion P (free_levels put))
variables-in P None leaf h = h
variables-in P (Some put) leaf h = h.1

nothing-there : (xs : List (ℕ × Sort)) → AllByRecursion Nothing xs → xs ≡ []
nothing-there [] h = refl
nothing-there (x ∷ xs) h = absurd h.0

pub term-put : (P : ℕ × Sort → Type 0) (b : ℕ → Option Tree) (t : Tree) (s : Sort) → IsTermOf t s → AllByRecursion (IsTermThere P b) (free_levels t) → IsTermOf (replaced b t) s × AllByRecursion P (free_levels (replaced b t))
term-put P b t s term h = (
  record {
    sorted = stays-sorted t b term.quantifier_free sorts term.sorted (all-weaker (IsTermThere P b) (IsSortedPut b) (free_levels t) (λ leaf. sorted-of P (b leaf.0) leaf) h);
    sort = same_sort t b term.quantifier_free sorts ∙ term.sort;
    quantifier_free = stays-plain t b term.quantifier_free (all-weaker (IsTermThere P b) (IsPlainPut b) (free_levels t) (λ leaf. plain-of P (b leaf.0) leaf) h);
    constant_free = nothing-there (constants_of (replaced b t)) (constants-put Nothing t b term.quantifier_free (all-none Nothing (constants_of t) term.constant_free) (all-weaker (IsTermThere P b) (HoldsInPut Nothing b) (free_levels t) (λ leaf. constants-in P (b leaf.0) leaf) h));
  },
  variables-put P t b term.quantifier_free (all-weaker (IsTermThere P b) (HoldsPut P b) (free_levels t) (λ leaf. variables-in P (b leaf.0) leaf) h),
)
  where
    sorts : AllByRecursion (HasItsSort b) (free_levels t)
    sorts = all-weaker (IsTermThere P b) (HasItsSort b) (free_levels t) (λ leaf. sort-of P (b leaf.0) leaf) h

-- a formula's negation
pub negation-term : (t : Tree) → IsTermOf t BoolSort → IsTermOf (negation t) BoolSort
negation-term t h = record {
  sorted = ((h.sorted, tt), subst IsSome (sym sort) refl);
  sort = sort;
  quantifier_free = (h.quantifier_free, tt);
  constant_free = ap (λ (xs : List (ℕ × Sort)). xs ++ []) h.constant_free;
}
  where
    sort : tree_sort (negation t) ≡ Some BoolSort
    sort = ap (λ (o : Option Sort). option_and_then (result_sort Not) (option_and_then (λ s. option_map (λ rest. s ∷ rest) (tree_sorts Nil)) o)) h.sort
