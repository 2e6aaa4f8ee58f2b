-- How added clauses are judged by their hints, and when lines refute clauses, computed.
use Rattle.std.proofs.Common.{◌≡◌, ℕ, pos, negsuc, true, false, List, [], ◌∷◌, map, refl}
use Rattle.qv_cnf.specs.Literal.{Literal}
use Rattle.qv_cnf.specs.Listing.{Numbered}
use Rattle.qv_cnf.specs.LratLine.{LratLine, Addition, Deletion}
use Rattle.qv_cnf.specs.Refutation.{Judgement, Accepted, OutOfOrder, RatAt, FailsAt, LeftOpen, after_line, judged_clause, judged_line, refutes_from, standing_at}

abbrev p : ℕ → Literal
p v = record { variable = v; positive = true }

abbrev m : ℕ → Literal
m v = record { variable = v; positive = false }

abbrev clause : ℕ → List Literal → Numbered
clause id lits = record { id = id; lits = lits }

-- all signs of two variables, a repeated literal, and one literal alone
abbrev live : List Numbered
live =
    clause 1 (p 1 ∷ p 2 ∷ []) ∷ clause 2 (m 1 ∷ p 2 ∷ []) ∷ clause 3 (p 1 ∷ m 2 ∷ []) ∷ clause 4 (m 1 ∷ m 2 ∷ [])
    ∷ clause 5 (p 3 ∷ p 3 ∷ []) ∷ clause 6 (m 2 ∷ []) ∷ []

abbrev judged : List Literal → List ℕ → Judgement
judged lits hints = judged_clause live lits (map pos hints)

-- a clause forces a literal, and the next one is false; hints behind it aren't looked at
accepted : judged (p 2 ∷ []) (1 ∷ 2 ∷ []) ∷ judged (p 2 ∷ []) (1 ∷ 2 ∷ 99 ∷ []) ∷ judged (p 1 ∷ p 2 ∷ []) (1 ∷ []) ∷ judged_clause live (p 1 ∷ p 2 ∷ []) (pos 1 ∷ negsuc 0 ∷ []) ∷ [] ≡ Accepted ∷ Accepted ∷ Accepted ∷ Accepted ∷ []
accepted = refl

-- a literal that stands twice is one
repeated : judged (p 3 ∷ []) (5 ∷ []) ∷ judged [] (5 ∷ []) ∷ [] ≡ Accepted ∷ LeftOpen ∷ []
repeated = refl

-- no hint at all, and one that forces a literal at the end
left-open : judged (p 2 ∷ []) [] ∷ judged (p 2 ∷ []) (1 ∷ []) ∷ [] ≡ LeftOpen ∷ LeftOpen ∷ []
left-open = refl

-- two literals open; one open that is true already; the same hint again; no clause of that id
failing : judged [] (1 ∷ []) ∷ judged (p 2 ∷ []) (6 ∷ []) ∷ judged (p 2 ∷ []) (1 ∷ 1 ∷ []) ∷ judged (p 2 ∷ []) (1 ∷ 7 ∷ 2 ∷ []) ∷ [] ≡ FailsAt 1 ∷ FailsAt 1 ∷ FailsAt 2 ∷ FailsAt 2 ∷ []
failing = refl

-- a negative hint
negative : judged_clause live (p 2 ∷ []) (pos 1 ∷ negsuc 1 ∷ []) ≡ RatAt 2
negative = refl

-- an id that was given, before any hint; then the next one
ids : judged_line (standing_at live) (Addition 6 (p 2 ∷ []) (negsuc 0 ∷ [])) ∷ judged_line (standing_at live) (Addition 7 (p 2 ∷ []) (pos 1 ∷ pos 2 ∷ [])) ∷ [] ≡ OutOfOrder ∷ Accepted ∷ []
ids = refl

abbrev unit_two : LratLine
unit_two = Addition 7 (p 2 ∷ []) (pos 1 ∷ pos 2 ∷ [])

-- [2], and then nothing is left; what comes behind isn't judged
refuted : refutes_from (standing_at live) (unit_two ∷ Deletion 0 (1 ∷ 99 ∷ []) ∷ Addition 8 [] (pos 7 ∷ pos 4 ∷ pos 3 ∷ []) ∷ Addition 1 (p 9 ∷ []) [] ∷ []) ≡ true
refuted = refl

-- not where a hint was deleted, an id came before, an earlier line fails, or no line has no literals
not-refuted :
    refutes_from (standing_at live) (unit_two ∷ Deletion 8 (3 ∷ []) ∷ Addition 8 [] (pos 7 ∷ pos 4 ∷ pos 3 ∷ []) ∷ [])
    ∷ refutes_from (standing_at live) (unit_two ∷ Deletion 8 (7 ∷ []) ∷ Addition 7 [] (pos 6 ∷ pos 1 ∷ pos 2 ∷ []) ∷ [])
    ∷ refutes_from (standing_at live) (Addition 7 (p 2 ∷ []) [] ∷ Addition 8 [] (pos 6 ∷ pos 1 ∷ pos 2 ∷ []) ∷ [])
    ∷ refutes_from (standing_at live) (unit_two ∷ []) ∷ refutes_from (standing_at live) [] ∷ []
    ≡ false ∷ false ∷ false ∷ false ∷ false ∷ []
not-refuted = refl

-- though the next id, or the failing line left out, does
nearly : refutes_from (standing_at live) (unit_two ∷ Deletion 8 (7 ∷ []) ∷ Addition 8 [] (pos 6 ∷ pos 1 ∷ pos 2 ∷ []) ∷ []) ≡ true
nearly = refl

-- a line that is shown by no hint goes where no clause holds the negation of its first literal
freed : refutes_from (standing_at live) (Addition 7 (p 9 ∷ []) [] ∷ Addition 8 [] (pos 6 ∷ pos 1 ∷ pos 2 ∷ []) ∷ []) ≡ true
freed = refl

abbrev opposite : List Numbered
opposite = clause 1 (p 1 ∷ []) ∷ clause 2 (m 1 ∷ []) ∷ []

-- [5 6] of new variables, [-5 -6] with the group of that clause, and then nothing is left
with-groups : refutes_from (standing_at opposite) (Addition 3 (p 5 ∷ p 6 ∷ []) [] ∷ Addition 4 (m 5 ∷ m 6 ∷ []) (negsuc 2 ∷ []) ∷ Addition 5 [] (pos 1 ∷ pos 2 ∷ []) ∷ []) ≡ true
with-groups = refl

-- without the group, and with that of another clause
without-groups :
    judged_line (after_line (standing_at opposite) (Addition 3 (p 5 ∷ p 6 ∷ []) [])) (Addition 4 (m 5 ∷ m 6 ∷ []) [])
    ∷ judged_line (after_line (standing_at opposite) (Addition 3 (p 5 ∷ p 6 ∷ []) [])) (Addition 4 (m 5 ∷ m 6 ∷ []) (negsuc 0 ∷ [])) ∷ []
    ≡ LeftOpen ∷ RatAt 1 ∷ []
without-groups = refl
