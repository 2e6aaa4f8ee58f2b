-- Where the attached clauses stand.
use Rattle.std.specs.Prelude.{◌≡◌, ℕ, ◌==◌, if◌then◌else◌, List, [], ◌∷◌, map, Option, Some, None, slice_get}
use Rattle.qv_cnf.specs.Listing.{Numbered, clause_named}
use Rattle.qv_cnf.specs.Literal.{Literal}

-- what stands at a place: the id of the clause that came there, and its literals as long as it is
-- attached
pub record Stored : Type 0 where
  pub id : ℕ
  pub lits : Option (List Literal)

-- a place's clause before others, if it is attached
abbrev pub with_stored : ℕ → Option (List Literal) → List Numbered → List Numbered
with_stored id None rest = rest
with_stored id (Some lits) rest = record { id = id; lits = lits } ∷ rest

-- the clauses that are attached, in the order in which they came
abbrev pub attached_in : List Stored → List Numbered
attached_in [] = []
attached_in (s ∷ ss) = with_stored s.id s.lits (attached_in ss)

-- the literals of the clause that is attached at a place
abbrev pub lits_in : Option Stored → Option (List Literal)
lits_in None = None
lits_in (Some s) = s.lits

-- the places where the clauses of an id aren't attached any more
abbrev pub let_go : ℕ → List Stored → List Stored
let_go id stored = map (λ s. if s.id == id then record { id = s.id; lits = None } else s) stored

-- each attached clause is the one of its id
abbrev pub IsNamed : List Stored → Type 0
IsNamed stored = (k : ℕ) (s : Stored) (lits : List Literal) → slice_get stored k ≡ Some s → s.lits ≡ Some lits → clause_named s.id (attached_in stored) ≡ Some lits
