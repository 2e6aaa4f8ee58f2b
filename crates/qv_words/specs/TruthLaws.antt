-- What pins truth down.
use Rattle.std.specs.Prelude.{◌≡◌, ℕ, ◌⊎◌, List, [], ◌∷◌, ◌++◌, All, slice_get}
use Rattle.qv_words.specs.Tree.{Tree}
use Rattle.qv_words.specs.Sorted.{constants_of, no_levels}
use Rattle.qv_words.specs.Meaning.{Means}
use Rattle.qv_words.specs.Truth.{AreTrue, HasConstantsOf, HoldUnder, IsAssertion, constants_of_each}

-- the empty list of formulas is true
abbrev pub NoFormulasAreTrue : Type 0
NoFormulasAreTrue = AreTrue []

-- where formulas are true together, so are those in front and those behind
abbrev pub PartsAreTrue : Type 0
PartsAreTrue = (front behind : List Tree) → AreTrue (front ++ behind) → AreTrue front × AreTrue behind

-- a formula without constants is true exactly where it means 1
abbrev pub FixedTruth : Type 0
FixedTruth =
    (t : Tree) → constants_of t ≡ [] → (AreTrue (t ∷ []) → Means [] no_levels t 1) × (Means [] no_levels t 1 → AreTrue (t ∷ []))

-- values that agree on the constants of formulas make the same ones hold
abbrev pub ConstantsDecideTruth : Type 0
ConstantsDecideTruth =
    (formulas : List Tree) (c d : List ℕ) → All (λ leaf. slice_get c leaf.0 ≡ slice_get d leaf.0) (constants_of_each formulas) →
    HoldUnder c formulas → HoldUnder d formulas

-- what may be asserted means 1 or 0, with values for its constants
abbrev pub AssertionsMeanTruth : Type 0
AssertionsMeanTruth =
    (t : Tree) (c : List ℕ) → IsAssertion t → HasConstantsOf c (t ∷ []) → Means c no_levels t 1 ⊎ Means c no_levels t 0
