-- What the run of a script comes to.
use Rattle.std.specs.Prelude.{◌≡◌, ◌≢◌, ◌≤◌, ℕ, Option, List}
use Rattle.qv_meter.specs.Records.{Limits, Record}
use Rattle.qv_shell_follow.specs.Solved.{IsSolved}

-- it ends with a status of such runs; what was printed, the certificate and the records are those of
-- one run with this limit on prefixes
pub record IsSolveRun (places : ℕ) {S : Type 0} (call : S → ℕ → Option (List ℕ) → S → Type 0) (limits : Limits) (left : Option (List ℕ)) (source source' : S) (out out' cert cert' : Option (List ℕ)) (before after : List Record) (status : ℕ) : Type 0 where
  pub status_is : (status ≤ 5) × (status ≢ 2)
  pub run : IsSolved places call limits left source source' out out' cert cert' before after status
