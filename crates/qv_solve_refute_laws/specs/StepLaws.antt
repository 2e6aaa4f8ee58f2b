-- A core's steps can be written: their ids and hints are in the ranges of lines.
use Rattle.std.specs.Prelude.{ℕ, ◌<◌, ◌^◌, List, All}
use Rattle.qv_cnf.specs.Derivation.{IsDerivation, no_steps}
use Rattle.qv_cnf.specs.Listing.{Numbered}
use Rattle.qv_cnf.specs.LratLine.{LratLine}
use Rattle.qv_lrat_text.specs.Grammar.{HasIds, IsId}
use Rattle.qv_sat.specs.CoreState.{EachHinted, IsNumbered}

-- behind clauses whose ids are in the range, steps that a core numbers on from some id have ids and
-- hints in the range, where the last id has
abbrev pub StepsHaveIds : Type 0
StepsHaveIds =
    (base : List Numbered) (steps : List LratLine) (top last : ℕ) → All (λ c. IsId c.id) base →
    IsDerivation base steps → EachHinted base steps no_steps → IsNumbered top steps last → last < 2 ^ 62 → All HasIds steps
