-- What the answers of a core say.
use Rattle.std.specs.Prelude.{◌≡◌, ◌≢◌, ◌≤◌, ◌-◌, ℕ, Bool, false, List, [], All, length, slice_index_or, IsTrue, IfOk, Result}
use Rattle.std.specs.List.{list_all}
use Rattle.qv_cnf.specs.Listing.{Numbered, clauses_of}
use Rattle.qv_cnf.specs.Literal.{Literal}
use Rattle.qv_cnf.specs.Refutation.{among}
use Rattle.qv_cnf.specs.Truth.{IsModel, literal_value}
use Rattle.qv_sat.specs.declared.outcomes.SatFault.{SatFault}
use Rattle.qv_sat.specs.declared.outcomes.Outcome.{Outcome}
use Rattle.qv_sat.specs.declared.outcomes.Outcome.TheVariants.{Found, Unsat}

-- the values of the variables from 1 on; those behind the end are false
abbrev pub assignment : List Bool → ℕ → Bool
assignment values v = slice_index_or values (v - 1) false

-- the assignment makes every one of the literals true
abbrev pub MakesTrue : (ℕ → Bool) → List Literal → Type 0
MakesTrue v lits = IsTrue (list_all (literal_value v) lits)

-- every clause and every assumption is true, and there is a value for each of their variables
pub record IsFound (clauses : List Numbered) (assumptions : List Literal) (values : List Bool) : Type 0 where
  pub model : IsModel (assignment values) (clauses_of clauses)
  pub assumed : MakesTrue (assignment values) assumptions
  pub valued : All (λ c. All (λ l. l.variable ≤ length values) c.lits) clauses
  pub valued_assumptions : All (λ l. l.variable ≤ length values) assumptions

-- the core is among the assumptions, and no assignment makes the clauses and the core true
pub record IsFailed (clauses : List Numbered) (assumptions core : List Literal) : Type 0 where
  pub among_assumptions : IsTrue (list_all (among assumptions) core)
  pub no_model : (v : ℕ → Bool) → IsModel v (clauses_of clauses) → MakesTrue v core → ⊥

abbrev pub OnFound : Outcome → (List Bool → Type 0) → Type 0
OnFound (Found values) P = P values.items
OnFound (Unsat core) P = Unit {0}

abbrev pub OnUnsat : Outcome → (List Literal → Type 0) → Type 0
OnUnsat (Found values) P = Unit {0}
OnUnsat (Unsat core) P = P core.items

-- where the answer is a core: an empty one, or one that has an assumption
abbrev pub OnEmptyCore : Result Outcome SatFault → Type 0 → Type 0
OnEmptyCore answer P = IfOk answer (λ outcome. OnUnsat outcome (λ core. core ≡ [] → P))

abbrev pub OnSomeCore : Result Outcome SatFault → Type 0 → Type 0
OnSomeCore answer P = IfOk answer (λ outcome. OnUnsat outcome (λ core. core ≢ [] → P))
