-- The steps of two conjunctions of the same variables, computed.
use Rattle.std.proofs.Common.{◌≡◌, ℕ, pos, true, false, List, [], ◌∷◌, ◌++◌, map, refl}
use Rattle.qv_cnf.specs.Literal.{Literal}
use Rattle.qv_cnf.specs.Listing.{Numbered}
use Rattle.qv_cnf.specs.LratLine.{LratLine, Addition}
use Rattle.qv_cnf.specs.Refutation.{standing_at}
use Rattle.qv_gates.specs.Closing.{Adds, StandsFor, added}

abbrev p : ℕ → Literal
p v = record { variable = v; positive = true }

abbrev m : ℕ → Literal
m v = record { variable = v; positive = false }

-- 3 and 4 are both 1 and 2
abbrev base : List Numbered
base =
    record { id = 1; lits = m 3 ∷ p 1 ∷ [] } ∷ record { id = 2; lits = m 3 ∷ p 2 ∷ [] } ∷ record { id = 3; lits = p 3 ∷ m 1 ∷ m 2 ∷ [] }
    ∷ record { id = 4; lits = m 4 ∷ p 1 ∷ [] } ∷ record { id = 5; lits = m 4 ∷ p 2 ∷ [] } ∷ record { id = 6; lits = p 4 ∷ m 1 ∷ m 2 ∷ [] } ∷ []

abbrev steps : List LratLine
steps = Addition 7 (m 4 ∷ p 3 ∷ []) (map pos (4 ∷ 5 ∷ 3 ∷ [])) ∷ Addition 8 (p 4 ∷ m 3 ∷ []) (map pos (1 ∷ 2 ∷ 6 ∷ [])) ∷ []

follow : Adds (standing_at base) steps
follow = (refl, (refl, tt))

three_for_four : StandsFor steps 4 (p 3)
three_for_four = record { forth = (0, 7, map pos (4 ∷ 5 ∷ 3 ∷ []), refl); back = (1, 8, map pos (1 ∷ 2 ∷ 6 ∷ []), refl) }

two_more : added steps ≡ record { id = 7; lits = m 4 ∷ p 3 ∷ [] } ∷ record { id = 8; lits = p 4 ∷ m 3 ∷ [] } ∷ []
two_more = refl
