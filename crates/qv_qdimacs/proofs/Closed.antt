-- The leaves of a file's formula: its constants are those of the outer variables, and no variable is free.
use Rattle.std.proofs.Common.{◌≡◌, ℕ, ◌+◌, ◌<◌, Bool, true, false, eqb, inl, inr, List, [], ◌∷◌, ◌++◌, length, Option, Some, None, refl, sym, subst, ◌∙◌, arith}
use Rattle.std.specs.Prelude.{IfSome, AllPairs}
use Rattle.std.specs.List.{AllByRecursion, position_from}
use Rattle.std.proofs.lemmas.Bool.{cases_Bool, eqb-false}
use Rattle.std.proofs.lemmas.List.Elements.{All-from_recursion}
use Rattle.std.proofs.lemmas.List.Kept.{AllPairs-cons}
use Rattle.qv_cnf.specs.Literal.{Literal}
use Rattle.qv_words.specs.declared.sort.Sort.{Sort}
use Rattle.qv_words.specs.declared.sort.Sort.TheVariants.{Bool as BoolSort}
use Rattle.qv_words.specs.Tree.{Tree}
use Rattle.qv_words.specs.Sorted.{constants_of, free_levels, but_level}
use Rattle.qv_words.specs.Prenex.{binary, under_sign}
use Rattle.qv_words.specs.Passes.{truth_literal}
use Rattle.qv_words.specs.Truth.{IsAssertion, HaveOneSort}
use Rattle.qv_store.specs.declared.problem.Quant.{Quant}
use Rattle.qv_store.specs.declared.problem.Quant.TheVariants as quant
use Rattle.qv_qdimacs.specs.declared.files.Quantified.{Quantified}
use Rattle.qv_qdimacs.specs.Outer.{place_in, variables_of, rest_of, outer_of}
use Rattle.qv_qdimacs.specs.Translation.{leaf_at, leaf_of, connective, matrix_tree, bound_by, bound_from, formula_of}
use Rattle.qv_qdimacs.specs.Formulas.{IsFormula}
use Rattle.qv_qdimacs.proofs.Formed.{leaf-formula, bound-formula, formula-sorted}
use Rattle.qv_qdimacs.proofs.Halves.{matrix-formula, matrix-has}

-- a constant of one of n truth values, and a variable of a level below m
abbrev pub IsOuter : ℕ → ℕ × Sort → Type 0
IsOuter n leaf = (leaf.0 < n) × (leaf.1 ≡ BoolSort)

abbrev IsLow : ℕ → ℕ × Sort → Type 0
IsLow m leaf = leaf.0 < m

-- each leaf of a tree is such a one
pub record IsWithin (n m : ℕ) (t : Tree) : Type 0 where
  pub constants : AllByRecursion (IsOuter n) (constants_of t)
  pub levels : AllByRecursion (IsLow m) (free_levels t)

each-append : {X : Type 0} (P : X → Type 0) (xs ys : List X) → AllByRecursion P xs → AllByRecursion P ys → AllByRecursion P (xs ++ ys)
each-append P [] ys h k = k
each-append P (x ∷ xs) ys h k = (h.0, each-append P xs ys h.1 k)

leaf-within : (n m : ℕ) (level index : Option ℕ) → IfSome level (λ l. l < m) → IfSome index (λ i. i < n) → IsWithin n m (leaf_at level index)
leaf-within n m (Some level) index h k = record { constants = tt; levels = (h, tt) }
leaf-within n m None (Some index) h k = record { constants = ((k, refl), tt); levels = tt }
leaf-within n m None None h k = record { constants = tt; levels = tt }

truth-within : (n m : ℕ) (b : Bool) → IsWithin n m (truth_literal b)
truth-within n m true = record { constants = tt; levels = tt }
truth-within n m false = record { constants = tt; levels = tt }

sign-within : (n m : ℕ) (positive : Bool) (t : Tree) → IsWithin n m t → IsWithin n m (under_sign positive t)
sign-within n m true t h = h
sign-within n m false t h = record {
  constants = each-append (IsOuter n) (constants_of t) [] h.constants tt;
  levels = each-append (IsLow m) (free_levels t) [] h.levels tt;
}

pair-within : (n m : ℕ) (both : Bool) (t u : Tree) → IsWithin n m t → IsWithin n m u → IsWithin n m (binary (connective both) t u)
pair-within n m both t u h k = record {
  constants = each-append (IsOuter n) (constants_of t) (constants_of u ++ []) h.constants (each-append (IsOuter n) (constants_of u) [] k.constants tt);
  levels = each-append (IsLow m) (free_levels t) (free_levels u ++ []) h.levels (each-append (IsLow m) (free_levels u) [] k.levels tt);
}

-- a place in a list is below its end
place-low : (v i : ℕ) (vs : List ℕ) → IfSome (position_from (eqb v) i vs) (λ p. p < i + length vs)
place-low v i [] = tt
place-low v i (w ∷ vs) =
    elim (cases_Bool (eqb v w)) [
      | inl same ↦ rw same (omega arith)
      | inr other ↦ rw other (subst (λ (n : ℕ). IfSome (position_from (eqb v) (i + 1) vs) (λ p. p < n)) (one-more i w vs) (place-low v (i + 1) vs))
    ]
  where
    one-more : (n x : ℕ) (xs : List ℕ) → n + 1 + length xs ≡ n + length (x ∷ xs)
    one-more n x xs = omega arith

from-zero : (n : ℕ) → 0 + n ≡ n
from-zero n = omega arith

place-within : (v : ℕ) (vs : List ℕ) → IfSome (place_in vs v) (λ p. p < length vs)
place-within v vs = subst (λ (n : ℕ). IfSome (place_in vs v) (λ p. p < n)) (from-zero (length vs)) (place-low v 0 vs)

leaves-within : (outer bound : List ℕ) (v : ℕ) → IsWithin (length outer) (length bound) (leaf_of outer bound v)
leaves-within outer bound v = leaf-within (length outer) (length bound) (place_in bound v) (place_in outer v) (place-within v bound) (place-within v outer)

-- a quantifier takes the greatest level away
but-low : (level : ℕ) (leaves : List (ℕ × Sort)) → AllByRecursion (IsLow (level + 1)) leaves → AllByRecursion (IsLow level) (but_level level leaves)
but-low level [] h = tt
but-low level (leaf ∷ leaves) h =
    elim (cases_Bool (eqb leaf.0 level)) [
      | inl same ↦ rw same (but-low level leaves h.1)
      | inr other ↦ rw other (omega (arith, h.0, eqb-false leaf.0 level other), but-low level leaves h.1)
    ]

bound-within : (q : Quant) (n level : ℕ) (t : Tree) → IsWithin n (level + 1) t → IsWithin n level (bound_by q level t)
bound-within quant.Exists n level t h = record { constants = h.constants; levels = but-low level (free_levels t) h.levels }
bound-within quant.Forall n level t h = record { constants = h.constants; levels = but-low level (free_levels t) h.levels }

prefix-within : (n level m : ℕ) (prefix : List Quantified) (body : Tree) → m ≡ level + length prefix → IsWithin n m body → IsWithin n level (bound_from level prefix body)
prefix-within n level m [] body is h = subst (λ (k : ℕ). IsWithin n k body) (omega (arith, is)) h
prefix-within n level m (q ∷ prefix) body is h =
    bound-within q.quant n level (bound_from (level + 1) prefix body) (prefix-within n (level + 1) m prefix body (omega (arith, is)) h)

pub file-within : (prefix : List Quantified) (clauses : List (List Literal)) → IsWithin (length (outer_of prefix clauses)) 0 (formula_of prefix clauses)
file-within prefix clauses =
    let outer = outer_of prefix clauses in
    let rest = rest_of prefix in
    let n = length outer in
    let m = length (variables_of rest) in
    prefix-within n 0 m rest (matrix_tree (leaf_of outer (variables_of rest)) clauses) (many rest)
    (matrix-has (IsWithin n m) (truth-within n m) (pair-within n m) (sign-within n m) (leaf_of outer (variables_of rest)) (leaves-within outer (variables_of rest)) clauses)
  where
    many : (qs : List Quantified) → length (variables_of qs) ≡ 0 + length qs
    many [] = refl
    many (q ∷ qs) = let more = many qs in omega (arith, more)

-- ---- what may be asserted

prefix-formula : (level : ℕ) (prefix : List Quantified) (body : Tree) → IsFormula body → IsFormula (bound_from level prefix body)
prefix-formula level [] body h = h
prefix-formula level (q ∷ prefix) body h = bound-formula q.quant level (bound_from (level + 1) prefix body) (prefix-formula (level + 1) prefix body h)

file-formula : (prefix : List Quantified) (clauses : List (List Literal)) → IsFormula (formula_of prefix clauses)
file-formula prefix clauses =
    let outer = outer_of prefix clauses in
    let bound = variables_of (rest_of prefix) in
    prefix-formula 0 (rest_of prefix) (matrix_tree (leaf_of outer bound) clauses) (matrix-formula (leaf_of outer bound) (λ v. leaf-formula (place_in bound v) (place_in outer v)) clauses)

none-low : (leaves : List (ℕ × Sort)) → AllByRecursion (IsLow 0) leaves → leaves ≡ []
none-low [] h = refl
none-low (leaf ∷ leaves) h = absurd (omega (arith, h.0))

pub file-closed : (prefix : List Quantified) (clauses : List (List Literal)) → free_levels (formula_of prefix clauses) ≡ []
file-closed prefix clauses = none-low (free_levels (formula_of prefix clauses)) (file-within prefix clauses).levels

pub file-assertion : (prefix : List Quantified) (clauses : List (List Literal)) → IsAssertion (formula_of prefix clauses)
file-assertion prefix clauses = record {
  sorted = formula-sorted (formula_of prefix clauses) (file-formula prefix clauses);
  bool = (file-formula prefix clauses).bool;
  closed = file-closed prefix clauses;
}

-- leaves of one index have one sort
abbrev AreAlike : ℕ × Sort → ℕ × Sort → Type 0
AreAlike a b = a.0 ≡ b.0 → a.1 ≡ b.1

each-alike : (n : ℕ) (leaf : ℕ × Sort) (leaves : List (ℕ × Sort)) → leaf.1 ≡ BoolSort → AllByRecursion (IsOuter n) leaves → AllByRecursion (AreAlike leaf) leaves
each-alike n leaf [] is h = tt
each-alike n leaf (other ∷ leaves) is h = (λ _. is ∙ sym h.0.1, each-alike n leaf leaves is h.1)

all-alike : (n : ℕ) (leaves : List (ℕ × Sort)) → AllByRecursion (IsOuter n) leaves → AllPairs AreAlike leaves
all-alike n [] h = λ i j d low high. absurd (omega (arith, high))
all-alike n (leaf ∷ leaves) h =
    AllPairs-cons AreAlike leaf leaves (All-from_recursion (AreAlike leaf) leaves (each-alike n leaf leaves h.0.1 h.1)) (all-alike n leaves h.1)

pub file-sorts : (prefix : List Quantified) (clauses : List (List Literal)) → HaveOneSort (formula_of prefix clauses ∷ [])
file-sorts prefix clauses =
    let t = formula_of prefix clauses in
    all-alike (length (outer_of prefix clauses)) (constants_of t ++ []) (each-append (IsOuter (length (outer_of prefix clauses))) (constants_of t) [] (file-within prefix clauses).constants tt)
