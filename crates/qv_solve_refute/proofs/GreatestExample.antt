-- The greatest variable of some clauses.
use Rattle.std.proofs.Common.{◌≡◌, List, [], ◌∷◌, refl}
use Rattle.std.specs.Prelude.{pos, negsuc}
use Rattle.qv_cnf.specs.Literal.{literal_of}
use Rattle.qv_cnf.specs.Listing.{Numbered}
use Rattle.qv_solve_refute.specs.Greatest.{greatest_variable}

-- 1 0, -7 3 0, 0, 2 -5 0
clauses : List Numbered
clauses =
    record { id = 1; lits = literal_of (pos 1) ∷ [] } ∷ record { id = 2; lits = literal_of (negsuc 6) ∷ literal_of (pos 3) ∷ [] } ∷ record { id = 3; lits = [] }
    ∷ record { id = 4; lits = literal_of (pos 2) ∷ literal_of (negsuc 4) ∷ [] } ∷ []

of-clauses : greatest_variable clauses ≡ 7
unfolding clauses
of-clauses = refl

of-none : greatest_variable [] ≡ 0
of-none = refl
