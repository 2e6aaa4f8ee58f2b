-- A file as a term.
use Rattle.std.specs.Prelude.{ℕ, zero, suc, ◌+◌, ◌/◌, Bool, true, false, Option, Some, None, List, [], ◌∷◌, length, map, take, drop}
use Rattle.qv_cnf.specs.Literal.{Literal}
use Rattle.qv_words.specs.declared.sort.Sort.TheVariants.{Bool as BoolSort}
use Rattle.qv_words.specs.declared.op.Op.{Op}
use Rattle.qv_words.specs.declared.op.Op.TheVariants.{And, Or}
use Rattle.qv_words.specs.Tree.{Tree, Constant, Variable, Literal as Value, ForAll, Exists}
use Rattle.qv_words.specs.Prenex.{binary, under_sign}
use Rattle.qv_words.specs.Passes.{truth_literal}
use Rattle.qv_store.specs.declared.problem.Quant.{Quant}
use Rattle.qv_store.specs.declared.problem.Quant.TheVariants as quant
use Rattle.qv_qdimacs.specs.declared.files.Quantified.{Quantified}
use Rattle.qv_qdimacs.specs.Outer.{place_in, variables_of, rest_of, outer_of}

-- the variable of a level, or else the constant of an index
abbrev pub leaf_at : Option ℕ → Option ℕ → Tree
leaf_at (Some level) index = Variable level BoolSort
leaf_at None (Some index) = Constant index BoolSort
leaf_at None None = Value BoolSort 0

-- what stands for a variable: the levels are places in the rest of the prefix, the indices those
-- among the outer variables
abbrev pub leaf_of : List ℕ → List ℕ → ℕ → Tree
leaf_of outer bound v = leaf_at (place_in bound v) (place_in outer v)

-- the conjunction's operator, or the disjunction's
abbrev pub connective : Bool → Op
connective true = And
connective false = Or

-- formulas joined by halves, of which the first is rounded down: one by itself, and of none the
-- literal `true` of a conjunction and `false` of a disjunction
abbrev pub joined_by : (List Tree → Tree) → Bool → List Tree → Tree
joined_by half both [] = truth_literal both
joined_by half both (t ∷ []) = t
joined_by half both (t ∷ u ∷ ts) =
    let all = t ∷ u ∷ ts in
    let middle = length all / 2 in
    binary (connective both) (half (take middle all)) (half (drop middle all))

-- the same of at most n
unfoldable pub joined_within : ℕ → Bool → List Tree → Tree
joined_within zero both ts = truth_literal both
joined_within (suc n) both ts = joined_by (joined_within n both) both ts

abbrev pub joined : Bool → List Tree → Tree
joined both ts = joined_within (length ts) both ts

-- In what follows `leaf` gives what stands for a variable.

abbrev pub literal_tree : (ℕ → Tree) → Literal → Tree
literal_tree leaf l = under_sign l.positive (leaf l.variable)

-- a clause: the disjunction of its literals
abbrev pub clause_tree : (ℕ → Tree) → List Literal → Tree
clause_tree leaf clause = joined false (map (literal_tree leaf) clause)

-- the conjunction of clauses
abbrev pub matrix_tree : (ℕ → Tree) → List (List Literal) → Tree
matrix_tree leaf clauses = joined true (map (clause_tree leaf) clauses)

-- a quantifier over the variable of a level
abbrev pub bound_by : Quant → ℕ → Tree → Tree
bound_by quant.Exists level body = Exists level BoolSort body
bound_by quant.Forall level body = ForAll level BoolSort body

-- a formula below the quantifiers of a prefix, the first of which has this level
abbrev pub bound_from : ℕ → List Quantified → Tree → Tree
bound_from level [] body = body
bound_from level (q ∷ prefix) body = bound_by q.quant level (bound_from (level + 1) prefix body)

-- the formula of a file
abbrev pub formula_of : List Quantified → List (List Literal) → Tree
formula_of prefix clauses =
    let rest = rest_of prefix in
    bound_from 0 rest (matrix_tree (leaf_of (outer_of prefix clauses) (variables_of rest)) clauses)
