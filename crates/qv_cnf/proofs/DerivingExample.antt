-- Which deletions a derivation may have, at five live additions, and which additions, computed.
use Rattle.std.proofs.Common.{◌≡◌, ℕ, pos, ◌≤◌, true, false, List, [], ◌∷◌, refl, sym, arith}
use Rattle.std.proofs.lemmas.Bool.{false≢true}
use Rattle.qv_cnf.specs.Derivation.{Deriving, MayAdd, MayDelete, after_step, no_steps, one_fewer}
use Rattle.qv_cnf.specs.Listing.{Numbered}
use Rattle.qv_cnf.specs.LratLine.{LratLine, Addition, Deletion}
use Rattle.qv_cnf.specs.Literal.{Literal}
use Rattle.qv_cnf.specs.Refutation.{Judgement, Accepted, FailsAt}

abbrev one : ℕ → Numbered
one id = record { id = id; lits = [] }

abbrev five : Deriving
five = record { added = one 11 ∷ one 12 ∷ one 13 ∷ one 14 ∷ one 15 ∷ []; next = 16 }

-- two of five may go, or all, and then one that was added since
two_go : MayDelete five (11 ∷ 13 ∷ 11 ∷ [])
two_go = record { live = refl; some = λ e. cc }

all_go : MayDelete five (11 ∷ 12 ∷ 13 ∷ 14 ∷ 15 ∷ [])
all_go = record { live = refl; some = λ e. cc }

another_goes : MayDelete (after_step five (Deletion 15 (11 ∷ 13 ∷ []))) (15 ∷ [])
another_goes = record { live = refl; some = λ e. cc }

-- but not one that is gone, no other clause, and not none
gone : MayDelete (after_step five (Deletion 15 (11 ∷ 13 ∷ []))) (13 ∷ []) → ⊥
gone m = false≢true m.live

others_stay : MayDelete five (11 ∷ 7 ∷ []) → ⊥
others_stay m = false≢true m.live

not_none : MayDelete five [] → ⊥
not_none m = m.some refl

-- additions: over two clauses, and one with an id that is still to come
abbrev p : ℕ → Literal
p v = record { variable = v; positive = true }

abbrev m : ℕ → Literal
m v = record { variable = v; positive = false }

abbrev base : List Numbered
base = record { id = 1; lits = p 1 ∷ p 2 ∷ [] } ∷ record { id = 2; lits = m 1 ∷ p 2 ∷ [] } ∷ record { id = 9; lits = m 2 ∷ [] } ∷ []

unit_two : MayAdd base no_steps 7 (p 2 ∷ []) (pos 1 ∷ pos 2 ∷ [])
unit_two = record { rises = omega arith; fresh = refl; follows = refl; literals_needed = refl; hints_needed = refl; not_opposite = refl; not_contained = refl }

abbrev after_unit : Deriving
after_unit = after_step no_steps (Addition 7 (p 2 ∷ []) (pos 1 ∷ pos 2 ∷ []))

-- the clause of id 9 is live from then on
after_nine : MayAdd base after_unit 10 [] (pos 7 ∷ pos 9 ∷ [])
after_nine = record { rises = omega arith; fresh = refl; follows = refl; literals_needed = refl; hints_needed = refl; not_opposite = refl; not_contained = refl }

not_before_nine : MayAdd base after_unit 8 [] (pos 7 ∷ pos 9 ∷ []) → ⊥
not_before_nine a = let e : ◌≡◌ {A = Judgement} (FailsAt 2) Accepted = a.follows in absurd cc

-- not under an id of the base, nor under one before the last
not_of_base : MayAdd base no_steps 9 (p 2 ∷ []) (pos 1 ∷ pos 2 ∷ []) → ⊥
not_of_base a = false≢true (sym a.fresh)

abbrev after_twelve : Deriving
after_twelve = after_step no_steps (Addition 12 (p 2 ∷ []) (pos 1 ∷ pos 2 ∷ []))

not_before : MayAdd base after_twelve 11 [] (pos 12 ∷ pos 9 ∷ []) → ⊥
not_before a = let h : 13 ≤ 11 = a.rises in omega (arith, h)

behind : MayAdd base after_twelve 13 [] (pos 12 ∷ pos 9 ∷ [])
behind = record { rises = omega arith; fresh = refl; follows = refl; literals_needed = refl; hints_needed = refl; not_opposite = refl; not_contained = refl }

-- nor a clause that has all literals of a live one
not_containing : MayAdd base after_unit 8 (p 3 ∷ p 2 ∷ []) (pos 7 ∷ []) → ⊥
not_containing a = false≢true (sym a.not_contained)

-- without one element
fewer : one_fewer {X = ℕ} (4 ∷ 5 ∷ 4 ∷ []) ≡ (5 ∷ 4 ∷ []) ∷ (4 ∷ 4 ∷ []) ∷ (4 ∷ 5 ∷ []) ∷ []
fewer = refl

-- nor a clause with a literal too many, or twice
literal_spared : MayAdd base no_steps 7 (p 2 ∷ p 3 ∷ []) (pos 1 ∷ pos 2 ∷ []) → ⊥
literal_spared a = false≢true (sym a.literals_needed)

literal_twice : MayAdd base no_steps 7 (p 2 ∷ p 2 ∷ []) (pos 1 ∷ pos 2 ∷ []) → ⊥
literal_twice a = false≢true (sym a.literals_needed)

-- nor with a hint too many: one behind the end, or one that forces what no other hint looks at, by
-- which a literal is looked at
hint_behind : MayAdd base no_steps 7 (p 2 ∷ []) (pos 1 ∷ pos 2 ∷ pos 1 ∷ []) → ⊥
hint_behind a = false≢true (sym a.hints_needed)

abbrev with_four : List Numbered
with_four = record { id = 3; lits = p 3 ∷ p 4 ∷ [] } ∷ base

hint_spared : MayAdd with_four no_steps 10 (p 2 ∷ p 3 ∷ []) (pos 3 ∷ pos 1 ∷ pos 2 ∷ []) → ⊥
hint_spared a = false≢true (sym a.hints_needed)

-- nor one with two opposite literals
abbrev either : List Numbered
either = record { id = 1; lits = p 1 ∷ p 2 ∷ [] } ∷ record { id = 2; lits = m 1 ∷ m 2 ∷ [] } ∷ []

opposite : MayAdd either no_steps 3 (p 1 ∷ m 1 ∷ []) (pos 1 ∷ pos 2 ∷ []) → ⊥
opposite a = false≢true (sym a.not_opposite)

-- where 1 and then 4 are assumed, 4 forces 5, which with 1 forces 6, and alone 7, and one of 6 and
-- 7 is false: 5 is the first unique implication point
abbrev conflicting : List Numbered
conflicting = record { id = 1; lits = m 4 ∷ p 5 ∷ [] } ∷ record { id = 2; lits = m 1 ∷ m 5 ∷ p 6 ∷ [] } ∷ record { id = 3; lits = m 5 ∷ p 7 ∷ [] } ∷ record { id = 4; lits = m 6 ∷ m 7 ∷ [] } ∷ []

at_point : MayAdd conflicting no_steps 5 (m 5 ∷ m 1 ∷ []) (pos 2 ∷ pos 3 ∷ pos 4 ∷ [])
at_point = record { rises = omega arith; fresh = refl; follows = refl; literals_needed = refl; hints_needed = refl; not_opposite = refl; not_contained = refl }

not_weakened : MayAdd conflicting no_steps 5 (m 5 ∷ m 1 ∷ m 4 ∷ []) (pos 2 ∷ pos 3 ∷ pos 4 ∷ []) → ⊥
not_weakened a = false≢true (sym a.literals_needed)

-- where it stands after an addition, and after a deletion
after-one : after_unit ≡ record { added = record { id = 7; lits = p 2 ∷ [] } ∷ []; next = 8 }
after-one = refl

after-deletion : after_step five (Deletion 20 (11 ∷ 13 ∷ [])) ≡ record { added = one 12 ∷ one 14 ∷ one 15 ∷ []; next = 16 }
after-deletion = refl
