-- Steps of derivations.
use Rattle.std.proofs.Common.{List, [], ◌∷◌, ◌++◌}
use Rattle.qv_cnf.specs.Derivation.{Deriving, DerivesFrom, after_step}
use Rattle.qv_cnf.specs.Listing.{Numbered}
use Rattle.qv_cnf.specs.LratLine.{LratLine}

-- the first steps of a derivation are one
pub DerivesFrom-front : (base : List Numbered) (steps later : List LratLine) (d : Deriving) → DerivesFrom base (steps ++ later) d → DerivesFrom base steps d
DerivesFrom-front base [] later d h = tt
DerivesFrom-front base (step ∷ steps) later d h = (h.0, DerivesFrom-front base steps later (after_step d step) h.1)
