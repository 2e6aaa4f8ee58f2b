-- Ids that rise, those that are picked from them, and counts of steps, computed.
use Rattle.std.proofs.Common.{◌≡◌, ◌≢◌, [], ◌∷◌, refl, arith, inl, inr}
use Rattle.qv_cnf.specs.LratLine.{Addition, Deletion}
use Rattle.qv_sat.specs.CoreState.{deletions}
use Rattle.qv_sat.specs.Reducing.{Picks, rising}

-- each is greater than all before it, and 0 is never
risen : rising 0 (0 ∷ 3 ∷ 2 ∷ 5 ∷ 5 ∷ 7 ∷ []) ≡ 3 ∷ 5 ∷ 7 ∷ []
risen = refl

-- of 3, 5 and 7 those that aren't 5
others : Picks (λ id. id ≢ 5) (3 ∷ 5 ∷ 7 ∷ []) (3 ∷ 7 ∷ [])
others = inl ((λ e. omega (arith, e)), 7 ∷ [], refl, inr ((λ apart. apart refl), inl ((λ e. omega (arith, e)), [], refl, refl)))

-- two of three steps take clauses away
deleted : deletions (Deletion 3 (1 ∷ []) ∷ Addition 4 [] [] ∷ Deletion 4 (2 ∷ []) ∷ []) ≡ 2
deleted = refl
