-- What prenex problems are for: they say what the formulas do.
use Rattle.std.specs.Prelude.{ℕ, List, All, map, slice_get, unwrap_or}
use Rattle.qv_words.specs.Tree.{Tree}
use Rattle.qv_words.specs.Truth.{IsAssertion, AreTrue, HasConstantsOf, HaveOneSort, HoldUnder, constants_of_each}
use Rattle.qv_words.specs.Problem.{Existential, Holds, problem_of, in_order}
use Rattle.qv_words.specs.GameLaws.{IsProblem, WinsFrom}

-- what is asserted has a lawful problem
abbrev pub ProblemsAreLawful : Type 0
ProblemsAreLawful = (formulas : List Tree) → All IsAssertion formulas → HaveOneSort formulas → IsProblem (problem_of formulas)

-- the values of the constants at their places
abbrev pub values_at : List ℕ → List Tree → List ℕ
values_at c formulas = map (λ k. unwrap_or (slice_get c k.0) 0) (in_order (constants_of_each formulas))

-- from given values of the constants the existential player wins exactly where every formula means
-- 1
abbrev pub PrenexUnderConstants : Type 0
PrenexUnderConstants =
    (formulas : List Tree) (c : List ℕ) → All IsAssertion formulas → HasConstantsOf c formulas →
    (WinsFrom (problem_of formulas) Existential (values_at c formulas) → HoldUnder c formulas)
    × (HoldUnder c formulas → WinsFrom (problem_of formulas) Existential (values_at c formulas))

-- the theorem of prenex problems: P(A) holds exactly where A is true
abbrev pub PrenexTheorem : Type 0
PrenexTheorem = (formulas : List Tree) → All IsAssertion formulas → HaveOneSort formulas → (Holds (problem_of formulas) → AreTrue formulas) × (AreTrue formulas → Holds (problem_of formulas))
