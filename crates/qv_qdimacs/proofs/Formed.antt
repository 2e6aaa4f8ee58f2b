-- Formulas are sorted, and of sort Bool.
use Rattle.std.proofs.Common.{◌≡◌, ℕ, Bool, true, false, cond, Option, Some, None, refl, arith}
use Rattle.std.specs.Prelude.{IfSome, ◌==◌, nat_eq}
use Rattle.std.specs.HashMap.{get}
use Rattle.qv_words.specs.declared.sort.Sort.{Sort}
use Rattle.qv_words.specs.declared.sort.Sort.TheVariants.{Bool as BoolSort}
use Rattle.qv_words.specs.Sort.{IsLawful}
use Rattle.qv_words.specs.Tree.{Tree}
use Rattle.qv_words.specs.Sorted.{IsSorted, with_level, no_levels}
use Rattle.qv_words.specs.Prenex.{binary, negation, under_sign}
use Rattle.qv_words.specs.Passes.{truth_literal}
use Rattle.qv_store.specs.declared.problem.Quant.{Quant}
use Rattle.qv_store.specs.declared.problem.Quant.TheVariants as quant
use Rattle.qv_qdimacs.specs.Translation.{leaf_at, connective, bound_by}
use Rattle.qv_qdimacs.specs.declared.places.Places.{Places}
use Rattle.qv_qdimacs.specs.Formulas.{AreBoolLevels, IsFormula}
use Rattle.qv_qdimacs.specs.Leaves.{leaf_in}

lawful : IsLawful BoolSort
lawful = (omega arith, omega arith)

pub no-bool_levels : AreBoolLevels no_levels
no-bool_levels l = tt

with-bool_levels : (levels : ℕ → Option Sort) (l : ℕ) → AreBoolLevels levels → AreBoolLevels (with_level levels l BoolSort)
with-bool_levels levels l h k = by (k == l)
  where
    by : (b : Bool) → IfSome (cond b (Some BoolSort) (levels k)) (λ s. BoolSort ≡ s)
    by true = refl
    by false = h k

pub formula-sorted : (t : Tree) → IsFormula t → IsSorted t
formula-sorted t h = h.sorted no_levels no-bool_levels

pub leaf-formula : (level index : Option ℕ) → IsFormula (leaf_at level index)
leaf-formula (Some level) index = record { sorted = λ levels h. (lawful, h level); bool = refl }
leaf-formula None (Some index) = record { sorted = λ levels h. lawful; bool = refl }
leaf-formula None None = record { sorted = λ levels h. (lawful, omega arith); bool = refl }

pub truth-formula : (b : Bool) → IsFormula (truth_literal b)
truth-formula true = record { sorted = λ levels h. (lawful, omega arith); bool = refl }
truth-formula false = record { sorted = λ levels h. (lawful, omega arith); bool = refl }

pub negation-formula : (t : Tree) → IsFormula t → IsFormula (negation t)
negation-formula t h = record {
  sorted = λ levels b. ((h.sorted levels b, tt), rw h.bool refl);
  bool = rw h.bool refl;
}

pub sign-formula : (positive : Bool) (t : Tree) → IsFormula t → IsFormula (under_sign positive t)
sign-formula true t h = h
sign-formula false t h = negation-formula t h

pub pair-formula : (both : Bool) (t u : Tree) → IsFormula t → IsFormula u → IsFormula (binary (connective both) t u)
pair-formula true t u h k = record {
  sorted = λ levels b. ((h.sorted levels b, (k.sorted levels b, tt)), rw (h.bool, k.bool) refl);
  bool = rw (h.bool, k.bool) refl;
}
pair-formula false t u h k = record {
  sorted = λ levels b. ((h.sorted levels b, (k.sorted levels b, tt)), rw (h.bool, k.bool) refl);
  bool = rw (h.bool, k.bool) refl;
}

pub bound-formula : (q : Quant) (level : ℕ) (t : Tree) → IsFormula t → IsFormula (bound_by q level t)
bound-formula quant.Exists level t h = record {
  sorted = λ levels b. (lawful, h.sorted (with_level levels level BoolSort) (with-bool_levels levels level b), h.bool);
  bool = rw h.bool refl;
}
bound-formula quant.Forall level t h = record {
  sorted = λ levels b. (lawful, h.sorted (with_level levels level BoolSort) (with-bool_levels levels level b), h.bool);
  bool = rw h.bool refl;
}

pub leaves-formula : (places : Places) (v : ℕ) → IsFormula (leaf_in places v)
leaves-formula places v = leaf-formula (get nat_eq places.bound v) (get nat_eq places.outer v)
