-- A base with a clause that follows, and none with one that doesn't.
use Rattle.std.proofs.Common.{◌≡◌, ℤ, pos, negsuc, List, [], ◌∷◌, true, false, inl, inr, refl}
use Rattle.qv_cnf.specs.Literal.{Literal}
use Rattle.qv_cnf.specs.Listing.{Numbered}
use Rattle.qv_cnf.specs.Refutation.{Accepted, judged_clause}
use Rattle.qv_meter.specs.Bases.{HaveClauses}

abbrev a : Literal
a = record { variable = 1; positive = true }

abbrev not_a : Literal
not_a = record { variable = 1; positive = false }

abbrev b : Literal
b = record { variable = 2; positive = true }

abbrev first : Numbered
first = record { id = 1; lits = a ∷ b ∷ [] }

abbrev second : Numbered
second = record { id = 2; lits = not_a ∷ b ∷ [] }

abbrev third : Numbered
third = record { id = 3; lits = b ∷ [] }

-- b follows from a or b, and not a or b
with-third : HaveClauses [] (first ∷ second ∷ third ∷ []) ((a ∷ b ∷ []) ∷ (not_a ∷ b ∷ []) ∷ [])
with-third = inl ((not_a ∷ b ∷ []) ∷ [], refl, inl ([], refl, inr ((pos 1 ∷ pos 2 ∷ [], refl), refl)))

-- nothing follows from nothing
none-alone : HaveClauses [] (third ∷ []) [] → ⊥
none-alone (inl (rest, e, more)) = cc
none-alone (inr ((hints, e), more)) = nothing hints e
  where
    nothing : (hints : List ℤ) → judged_clause [] (b ∷ []) hints ≡ Accepted → ⊥
    nothing [] e = cc
    nothing (pos id ∷ hints) e = cc
    nothing (negsuc n ∷ hints) e = cc
