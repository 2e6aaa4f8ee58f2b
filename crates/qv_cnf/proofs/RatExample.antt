-- How added clauses are judged by their hints, RAT lines included, computed.
use Rattle.std.proofs.Common.{◌≡◌, ℕ, ℤ, pos, negsuc, true, false, List, [], ◌∷◌, refl}
use Rattle.qv_cnf.specs.Literal.{Literal}
use Rattle.qv_cnf.specs.Listing.{Numbered}
use Rattle.qv_cnf.specs.Refutation.{Judgement, Accepted, RatAt, FailsAt, LeftOpen}
use Rattle.qv_cnf.specs.Rat.{judged_addition}

abbrev p : ℕ → Literal
p v = record { variable = v; positive = true }

abbrev m : ℕ → Literal
m v = record { variable = v; positive = false }

abbrev clause : ℕ → List Literal → Numbered
clause id lits = record { id = id; lits = lits }

abbrev live : List Numbered
live =
    clause 1 (p 1 ∷ p 2 ∷ []) ∷ clause 2 (m 1 ∷ p 3 ∷ []) ∷ clause 3 (m 1 ∷ m 3 ∷ p 4 ∷ []) ∷ clause 4 (m 2 ∷ m 4 ∷ [])
    ∷ clause 5 (p 1 ∷ m 1 ∷ p 5 ∷ []) ∷ clause 6 (m 5 ∷ p 6 ∷ []) ∷ clause 7 (p 1 ∷ m 3 ∷ p 4 ∷ []) ∷ clause 8 (p 8 ∷ m 8 ∷ []) ∷ []

abbrev judged : List Literal → List ℤ → Judgement
judged lits hints = judged_addition live lits hints

-- A clause that follows by positive hints alone, or by those before the first negative one.
follow :
    judged (p 1 ∷ p 2 ∷ []) (pos 1 ∷ [])
    ∷ judged (p 1 ∷ p 2 ∷ []) (pos 1 ∷ negsuc 8 ∷ [])
    ∷ judged (m 4 ∷ p 1 ∷ []) (pos 1 ∷ pos 4 ∷ []) ∷ []
    ≡ Accepted ∷ Accepted ∷ Accepted ∷ []
follow = refl

-- No live clause holds the negation of the first literal, or each that does holds the literal too.
free :
    judged (p 7 ∷ p 1 ∷ []) []
    ∷ judged (p 8 ∷ []) []
    ∷ judged (p 8 ∷ []) (negsuc 7 ∷ []) ∷ []
    ≡ Accepted ∷ Accepted ∷ Accepted ∷ []
free = refl

-- Each other clause has a group, which a literal closes that is kept, or a clause that is false. Hints
-- behind it aren't looked at.
resolved :
    judged (m 3 ∷ p 1 ∷ []) (negsuc 1 ∷ [])
    ∷ judged (p 1 ∷ m 3 ∷ []) (negsuc 1 ∷ negsuc 2 ∷ pos 7 ∷ [])
    ∷ judged (p 1 ∷ m 3 ∷ []) (negsuc 2 ∷ pos 7 ∷ negsuc 1 ∷ [])
    ∷ judged (p 1 ∷ m 3 ∷ []) (negsuc 1 ∷ pos 99 ∷ negsuc 2 ∷ pos 7 ∷ pos 98 ∷ [])
    ∷ judged (p 1 ∷ m 3 ∷ []) (negsuc 1 ∷ negsuc 1 ∷ negsuc 2 ∷ pos 7 ∷ [])
    ∷ judged (p 1 ∷ m 3 ∷ []) (negsuc 1 ∷ negsuc 2 ∷ pos 7 ∷ negsuc 4 ∷ []) ∷ []
    ≡ Accepted ∷ Accepted ∷ Accepted ∷ Accepted ∷ Accepted ∷ Accepted ∷ []
resolved = refl

-- A clause has no group, or the last group is open.
unresolved :
    judged (p 1 ∷ m 3 ∷ []) []
    ∷ judged (p 1 ∷ m 3 ∷ []) (negsuc 1 ∷ [])
    ∷ judged (p 1 ∷ m 3 ∷ []) (negsuc 1 ∷ negsuc 2 ∷ [])
    ∷ judged (m 6 ∷ []) (negsuc 5 ∷ [])
    ∷ judged (p 5 ∷ []) []
    ∷ judged (p 1 ∷ p 3 ∷ []) (pos 1 ∷ pos 4 ∷ [])
    ∷ judged [] [] ∷ []
    ≡ LeftOpen ∷ LeftOpen ∷ LeftOpen ∷ LeftOpen ∷ LeftOpen ∷ LeftOpen ∷ LeftOpen ∷ []
unresolved = refl

-- No clause of that id, or one that doesn't hold the negation of the first literal; the group before is
-- open; a positive hint of a group fails; no literal.
failing :
    judged (p 1 ∷ m 3 ∷ []) (negsuc 8 ∷ [])
    ∷ judged (p 1 ∷ m 3 ∷ []) (negsuc 0 ∷ [])
    ∷ judged (m 3 ∷ p 1 ∷ []) (negsuc 2 ∷ [])
    ∷ judged (p 1 ∷ m 3 ∷ []) (negsuc 2 ∷ negsuc 1 ∷ [])
    ∷ judged (p 1 ∷ m 3 ∷ []) (negsuc 2 ∷ pos 99 ∷ [])
    ∷ judged (p 1 ∷ m 3 ∷ []) (negsuc 2 ∷ pos 1 ∷ pos 4 ∷ [])
    ∷ judged [] (negsuc 0 ∷ [])
    ∷ judged [] (pos 1 ∷ []) ∷ []
    ≡ RatAt 1 ∷ RatAt 1 ∷ RatAt 1 ∷ RatAt 2 ∷ FailsAt 2 ∷ FailsAt 3 ∷ RatAt 1 ∷ FailsAt 1 ∷ []
failing = refl
