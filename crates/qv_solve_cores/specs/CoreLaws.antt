-- What pins cores down.
use Rattle.std.specs.Prelude.{◌≤◌, ℕ, IsTrue, List, ◌∷◌, All, length}
use Rattle.qv_words.specs.Tree.{Tree}
use Rattle.qv_words.specs.Truth.{AreTrue}
use Rattle.qv_words.specs.Problem.{problem_of}
use Rattle.qv_core.specs.Without.{is_among, without, dropped}
use Rattle.qv_meter.specs.Records.{IsSpent, Limits, Record}
use Rattle.qv_solve_cores.specs.Cores.{IsCore}

-- fewer formulas have no more places
abbrev pub FewerHaveNoMorePlaces : Type 0
FewerHaveNoMorePlaces = (out : List ℕ) (formulas : List Tree) → length (problem_of (without out formulas)).prefix ≤ length (problem_of formulas).prefix

-- what holds together holds without some of it
abbrev pub FewerAreTrue : Type 0
FewerAreTrue = (out more : List ℕ) (formulas : List Tree) → ((n : ℕ) → IsTrue (is_among out n) → IsTrue (is_among more n)) → AreTrue (without out formulas) → AreTrue (without more formulas)

-- Of a core no formula can be spared: where no record of the search is spent, what is left without one
-- that is kept is true.
abbrev pub NoneCanBeSpared : Type 0
NoneCanBeSpared =
    (limits : Limits) (formulas : List Tree) (named kept : List ℕ) (records : List Record) (place : ℕ) → IsCore limits formulas named kept records → All (λ r. IsSpent r → ⊥) records →
    IsTrue (is_among kept place) → AreTrue (without (place ∷ dropped named kept) formulas)
