-- When a quantified Boolean formula in prenex clause form holds.
use Rattle.std.specs.Prelude.{ℕ, ◌==◌, Bool, true, false, not, ◌&&◌, ◌||◌, if◌then◌else◌, Option, Some, None, List, [], ◌∷◌}
use Rattle.std.specs.List.{list_any, list_all}
use Rattle.qv_cnf.specs.Literal.{Literal}
use Rattle.qv_store.specs.declared.problem.Quant.{Quant}
use Rattle.qv_store.specs.declared.problem.Quant.TheVariants.{Exists, Forall}
use Rattle.qv_qdimacs.specs.declared.files.Quantified.{Quantified}

-- the value of a variable, where it has one: values are pairs, and the first pair counts
abbrev pub value_of : List (ℕ × Bool) → ℕ → Option Bool
value_of [] v = None
value_of (first ∷ values) v = if v == first.0 then Some first.1 else value_of values v

-- a value as the sign says, or its contrary
abbrev pub signed : Bool → Bool → Bool
signed positive b = if positive then b else not b

abbrev pub holds_at : Bool → Option Bool → Bool
holds_at positive None = false
holds_at positive (Some b) = signed positive b

-- whether values make a literal true
abbrev pub makes_true : List (ℕ × Bool) → Literal → Bool
makes_true values l = holds_at l.positive (value_of values l.variable)

-- whether they make some literal of a clause true, and one in each clause
abbrev pub has_true : List (ℕ × Bool) → List Literal → Bool
has_true values clause = list_any (λ l. makes_true values l) clause

abbrev pub satisfies : List (ℕ × Bool) → List (List Literal) → Bool
satisfies values clauses = list_all (λ clause. has_true values clause) clauses

-- what holds of one of two, or of both
abbrev pub quantified_by : Quant → Bool → Bool → Bool
quantified_by Exists a b = a || b
quantified_by Forall a b = a && b

-- whether clauses hold under a prefix and values: without a prefix where the values satisfy them,
-- and else by the first quantifier, where its variable is true and where it is false
abbrev pub q_true : List Quantified → List (List Literal) → List (ℕ × Bool) → Bool
q_true [] clauses values = satisfies values clauses
q_true (q ∷ prefix) clauses values =
    quantified_by q.quant (q_true prefix clauses ((q.variable, true) ∷ values)) (q_true prefix clauses ((q.variable, false) ∷ values))
