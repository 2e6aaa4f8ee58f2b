-- Decisions on a trail, and what they lead to.
use Rattle.std.specs.Prelude.{◌≡◌, ◌≢◌, ◌⊎◌, ℕ, ◌≤◌, ◌^◌, ℤ, Bool, true, List, [], ◌∷◌, Some, None, All, min, take, length, slice_get, IsTrue}
use Rattle.std.specs.List.{list_all}
use Rattle.qv_cnf.specs.Listing.{Numbered, clause_named}
use Rattle.qv_cnf.specs.Literal.{Literal}
use Rattle.qv_cnf.specs.Refutation.{among, IsRup}
use Rattle.qv_cnf.specs.Truth.{clause_value}
use Rattle.qv_watch.specs.Entries.{Entry, trues}
use Rattle.qv_watch.specs.TrailState.{TrailState}
use Rattle.qv_sat.specs.Answering.{MakesTrue, assignment}
use Rattle.qv_sat.specs.declared.outcomes.Outcome.{Outcome}
use Rattle.qv_sat.specs.declared.outcomes.Outcome.TheVariants.{Found, Unsat}

-- an assumed literal that may come behind these entries: it is an assumption, and with it the first
-- assumptions are true, as many as levels are open; or all assumptions are true
abbrev pub IsDue : List Literal → List Entry → Entry → Type 0
IsDue assumptions before e =
    ((among assumptions e.lit ≡ true) × (list_all (among (e.lit ∷ trues before)) (take e.level assumptions) ≡ true))
    ⊎ (list_all (among (trues before)) assumptions ≡ true)

-- each assumed literal might come where it came
abbrev pub AssumedFirst : List Literal → List Entry → Type 0
AssumedFirst assumptions entries = (k : ℕ) (e : Entry) → slice_get entries k ≡ Some e → e.reason ≡ None → IsDue assumptions (take k entries) e

-- the assumptions before a place are true, and there are as many as levels are open, or all
pub record AreOpened (t : TrailState) (assumptions : List Literal) (opened : ℕ) : Type 0 where
  pub long : opened ≤ length assumptions
  pub front : list_all (among (trues t.entries)) (take opened assumptions) ≡ true
  pub enough : min t.level (length assumptions) ≤ opened

-- variables are numbered from 1 to the last
abbrev pub IsWithin : ℕ → Literal → Type 0
IsWithin variables l = (1 ≤ l.variable) × (l.variable ≤ variables)

-- those of the clause of each id are
abbrev pub AllWithin : ℕ → List Numbered → Type 0
AllWithin variables clauses = (id : ℕ) (lits : List Literal) → clause_named id clauses ≡ Some lits → All (IsWithin variables) lits

-- a trail on which decisions may come: it has room for the variables alone, the clauses and the
-- assumptions name no others, and what was assumed so far came in the order of decisions
pub record MayDecide (t : TrailState) (assumptions : List Literal) (variables : ℕ) : Type 0 where
  pub room : t.room ≡ variables
  pub most : variables ≤ 2 ^ 30
  pub clauses : AllWithin variables t.clauses
  pub within : All (IsWithin variables) assumptions
  pub first : AssumedFirst assumptions t.entries

-- the assignment makes the clause of each id true
abbrev pub MakesNamedTrue : (ℕ → Bool) → List Numbered → Type 0
MakesNamedTrue v clauses = (id : ℕ) (lits : List Literal) → clause_named id clauses ≡ Some lits → clause_value v lits ≡ true

-- with these literals the clauses have no model
abbrev pub NoModelWith : List Numbered → List Literal → Type 0
NoModelWith clauses core = (v : ℕ → Bool) → MakesNamedTrue v clauses → MakesTrue v core → ⊥

-- the values of the variables from 1 on make the clause of each id and every assumption true
pub record IsFoundOn (clauses : List Numbered) (assumptions : List Literal) (variables : ℕ) (values : List Bool) : Type 0 where
  pub model : MakesNamedTrue (assignment values) clauses
  pub assumed : MakesTrue (assignment values) assumptions
  pub long : length values ≡ variables

-- some of the assumptions, with which the clauses have no model; alone they have no conflict
pub record IsFailedOn (clauses : List Numbered) (assumptions core : List Literal) : Type 0 where
  pub among_assumptions : IsTrue (list_all (among assumptions) core)
  pub no_model : NoModelWith clauses core
  pub some : core ≢ []
  pub no_conflict : (hints : List ℤ) → IsRup clauses [] hints → ⊥

-- what an outcome says of the clauses of a trail
abbrev pub AnswersOn : List Numbered → List Literal → ℕ → Outcome → Type 0
AnswersOn clauses assumptions variables (Found values) = IsFoundOn clauses assumptions variables values.items
AnswersOn clauses assumptions variables (Unsat core) = IsFailedOn clauses assumptions core.items
