-- Quantified formulas that hold, and some that don't, computed.
use Rattle.std.proofs.Common.{◌≡◌, ℕ, true, false, List, [], ◌∷◌, refl}
use Rattle.qv_cnf.specs.Literal.{Literal}
use Rattle.qv_store.specs.declared.problem.Quant.TheVariants.{Exists, Forall}
use Rattle.qv_qdimacs.specs.declared.files.Quantified.{Quantified}
use Rattle.qv_qdimacs.specs.BooleanMeaning.{q_true}
use Rattle.qv_qdimacs.specs.Outer.{rest_of, outer_of, holds_under}

abbrev p : ℕ → Literal
p v = record { variable = v; positive = true }

abbrev m : ℕ → Literal
m v = record { variable = v; positive = false }

abbrev all : ℕ → Quantified
all v = record { quant = Forall; variable = v }

abbrev some : ℕ → Quantified
some v = record { quant = Exists; variable = v }

-- two variables that differ
abbrev differ : List (List Literal)
differ = (p 1 ∷ p 2 ∷ []) ∷ (m 1 ∷ m 2 ∷ []) ∷ []

-- Each has another one, but none is other than all. Without clauses all holds, and an empty clause
-- never does; a variable without a value makes no literal true.
meaning :
    q_true (all 1 ∷ some 2 ∷ []) differ []
    ∷ q_true (some 2 ∷ all 1 ∷ []) differ []
    ∷ q_true (all 1 ∷ []) [] []
    ∷ q_true (some 1 ∷ []) ([] ∷ []) []
    ∷ q_true [] (((m 3) ∷ []) ∷ []) []
    ∷ q_true [] (((m 3) ∷ []) ∷ []) ((3, false) ∷ (3, true) ∷ []) ∷ []
    ≡ true ∷ false ∷ true ∷ false ∷ false ∷ true ∷ []
meaning = refl

-- The free variables rise, and the leading existential ones come behind them; a universal quantifier
-- in front leaves none of those.
outer :
    outer_of (some 2 ∷ some 1 ∷ all 4 ∷ some 3 ∷ []) ((p 9 ∷ m 5 ∷ p 4 ∷ []) ∷ (p 5 ∷ p 3 ∷ m 7 ∷ []) ∷ [])
    ∷ outer_of (all 1 ∷ some 2 ∷ []) differ
    ∷ outer_of [] differ ∷ []
    ≡ (5 ∷ 7 ∷ 9 ∷ 2 ∷ 1 ∷ []) ∷ [] ∷ (1 ∷ 2 ∷ []) ∷ []
outer = refl

rest :
    rest_of (some 2 ∷ some 1 ∷ all 4 ∷ some 3 ∷ []) ∷ rest_of (some 2 ∷ []) ∷ []
    ≡ (all 4 ∷ some 3 ∷ []) ∷ [] ∷ []
rest = refl

-- 1 is free, and 2 quantified behind no universal quantifier.
under :
    holds_under (some 2 ∷ []) differ (true ∷ false ∷ [])
    ∷ holds_under (some 2 ∷ []) differ (true ∷ true ∷ [])
    ∷ holds_under (all 2 ∷ []) differ (true ∷ []) ∷ []
    ≡ true ∷ false ∷ false ∷ []
under = refl
