-- What clauses say of an assignment of the variables.
use Rattle.std.specs.Prelude.{ℕ, Bool, not, cond, List, IsTrue}
use Rattle.std.specs.List.{list_any, list_all}
use Rattle.qv_cnf.specs.Literal.{Literal}

-- a literal's value under an assignment
abbrev pub literal_value : (ℕ → Bool) → Literal → Bool
literal_value v l = cond l.positive (v l.variable) (not (v l.variable))

-- a clause is true where one of its literals is
abbrev pub clause_value : (ℕ → Bool) → List Literal → Bool
clause_value v lits = list_any (literal_value v) lits

-- the assignment makes every clause true
abbrev pub IsModel : (ℕ → Bool) → List (List Literal) → Type 0
IsModel v clauses = IsTrue (list_all (clause_value v) clauses)

-- no assignment makes every clause true
abbrev pub HasNoModel : List (List Literal) → Type 0
HasNoModel clauses = (v : ℕ → Bool) → IsModel v clauses → ⊥
