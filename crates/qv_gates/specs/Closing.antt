-- What a closure has, and what its steps say.
use Rattle.std.specs.Prelude.{◌≡◌, ℕ, ℤ, ◌++◌, Bool, true, List, [], ◌∷◌, slice_get, Some}
use Rattle.qv_cnf.specs.Listing.{Numbered, clauses_of}
use Rattle.qv_cnf.specs.Literal.{Literal, negated}
use Rattle.qv_cnf.specs.LratLine.{LratLine, Addition, Deletion}
use Rattle.qv_cnf.specs.Refutation.{Accepted, Standing, after_line, judged_rup}
use Rattle.qv_cnf.specs.Truth.{IsModel, literal_value}

-- the clauses that were added, and the steps behind them
pub record Closing : Type 0 where
  pub base : List Numbered
  pub steps : List LratLine

-- nothing was added
abbrev pub no_clauses : Closing
no_clauses = record { base = []; steps = [] }

-- each line adds a clause: its id is greater than all before, and it follows by its hints
abbrev pub Adds : Standing → List LratLine → Type 0
Adds s [] = Unit {0}
Adds s (Addition id lits hints ∷ lines) = (judged_rup s (Addition id lits hints) ≡ Accepted) × Adds (after_line s (Addition id lits hints)) lines
Adds s (Deletion id ids ∷ lines) = ⊥

-- the clauses that lines add
abbrev pub added : List LratLine → List Numbered
added [] = []
added (Addition id lits hints ∷ lines) = record { id = id; lits = lits } ∷ added lines
added (Deletion id ids ∷ lines) = added lines

-- some line adds the clause
abbrev pub IsAdded : List LratLine → List Literal → Type 0
IsAdded lines lits = (k id : ℕ) × (hints : List ℤ) × (slice_get lines k ≡ Some (Addition id lits hints))

-- the literal of a variable
abbrev pub variable_of : ℕ → Literal
variable_of v = record { variable = v; positive = true }

-- two lines say that the literals are equal: each implies the other
pub record IsShown (lines : List LratLine) (x y : Literal) : Type 0 where
  pub forth : IsAdded lines (negated x ∷ y ∷ [])
  pub back : IsAdded lines (x ∷ negated y ∷ [])

-- the literal stands for the variable
abbrev pub StandsFor : List LratLine → ℕ → Literal → Type 0
StandsFor lines variable lit = IsShown lines (variable_of variable) lit

-- it has the literal's value wherever the clauses are true
abbrev pub IsEqual : List Numbered → ℕ → Literal → Type 0
IsEqual base variable lit = (v : ℕ → Bool) → IsModel v (clauses_of base) → v variable ≡ literal_value v lit

-- the clauses are the same, and more steps came
pub record GoesOn (old new : Closing) : Type 0 where
  pub base : new.base ≡ old.base
  pub more : List LratLine
  pub steps : new.steps ≡ old.steps ++ more
