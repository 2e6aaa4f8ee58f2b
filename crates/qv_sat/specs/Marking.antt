-- Which variables are marked.
use Rattle.std.specs.Prelude.{◌≡◌, ℕ, ◌-◌, Bool, true, false, List, Some, None, All, slice_get, slice_index_or}
use Rattle.qv_cnf.specs.Listing.{Numbered, clause_named}
use Rattle.qv_cnf.specs.Literal.{Literal}
use Rattle.qv_watch.specs.Entries.{Entry}

-- whether a variable is marked, in a table of the variables from 1 on
abbrev pub is_marked : List Bool → ℕ → Bool
is_marked marks v = slice_index_or marks (v - 1) false

-- the variables of the clause of that id are marked
abbrev pub AllMarked : List Numbered → ℕ → List Bool → Type 0
AllMarked clauses id marks = (lits : List Literal) → clause_named id clauses ≡ Some lits → All (λ l. is_marked marks l.variable ≡ true) lits

-- the literal was assumed
abbrev pub IsDecision : List Entry → Literal → Type 0
IsDecision entries l = (k : ℕ) × (e : Entry) × (slice_get entries k ≡ Some e) × (e.reason ≡ None) × (e.lit ≡ l)
