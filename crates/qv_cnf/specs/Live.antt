-- The live ones among the clauses that were given.
use Rattle.std.specs.Prelude.{ℕ, Bool, if◌then◌else◌, List, [], ◌∷◌}
use Rattle.qv_cnf.specs.Listing.{Numbered}
use Rattle.qv_cnf.specs.Literal.{Literal}

-- the clauses whose flag is set, each with its id
abbrev pub live_of : List ℕ → List Bool → List (List Literal) → List Numbered
live_of [] flags clauses = []
live_of (id ∷ ids) [] clauses = []
live_of (id ∷ ids) (flag ∷ flags) [] = []
live_of (id ∷ ids) (flag ∷ flags) (lits ∷ clauses) =
    if flag then record { id = id; lits = lits } ∷ live_of ids flags clauses else live_of ids flags clauses
