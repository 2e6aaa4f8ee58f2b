-- A table of flags beside a list of variables.
use Rattle.std.specs.Prelude.{◌≡◌, ℕ, Bool, false, List, slice_index_or}
use Rattle.qv_learn.specs.Marking.{marked}

-- the variables with a flag are those of the list
pub record AreFlagged (flags : List Bool) (list : List ℕ) : Type 0 where
  pub each : (v : ℕ) → slice_index_or flags v false ≡ marked list v
