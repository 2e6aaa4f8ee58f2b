-- What a checker makes of the clauses and steps of a core.
use Rattle.std.specs.Prelude.{◌≡◌, ℕ, true, List}
use Rattle.std.specs.List.{list_any}
use Rattle.qv_cnf.specs.Derivation.{IsDerivation}
use Rattle.qv_cnf.specs.Listing.{Numbered}
use Rattle.qv_cnf.specs.LratLine.{LratLine}
use Rattle.qv_cnf.specs.Refutation.{Refutes, adds_none}
use Rattle.qv_sat.specs.Feeding.{ComesFirst, IsAccepted, IsRefuted}
use Rattle.qv_sat.specs.Ordering.{IsOrdered}

-- a checker accepts a derivation whose ids are in order, given with its base by rising ids
abbrev pub DerivationIsAccepted : Type 0
DerivationIsAccepted =
    (base : List Numbered) (steps : List LratLine) (top : ℕ) →
    IsDerivation base steps → IsOrdered base steps top → IsAccepted base steps

-- and is refuted where a step adds a clause without literals
abbrev pub EmptyClauseRefutes : Type 0
EmptyClauseRefutes = (base : List Numbered) (steps : List LratLine) → list_any adds_none steps ≡ true → IsRefuted base steps

-- where all clauses come before the first step, the steps that it accepts and that refute it refute
-- the clauses
abbrev pub WholeFeedingRefutes : Type 0
WholeFeedingRefutes =
    (base : List Numbered) (steps : List LratLine) →
    ComesFirst base steps → IsAccepted base steps → IsRefuted base steps → Refutes base steps
