-- What is charged while a game is played.
use Rattle.std.specs.Prelude.{◌≡◌, ℕ, ◌+◌, Option, Some, None, List, length, slice_get}
use Rattle.qv_words.specs.Problem.{Problem, Quantifier}
use Rattle.qv_meter.specs.Queries.{block_count}
use Rattle.qv_meter.specs.Records.{Kept, Metering, Record, position_of}
use Rattle.qv_meter.specs.Units.{Query as QueryLane}

-- whose regions a lane is asked about, and how many conflicts it has
pub record Tally : Type 0 where
  pub winner : Quantifier
  pub count : ℕ

-- the newest record has this problem, so many instances, this limit of variables, no conflict of the
-- final list, and so many of the lane of each level from 2 on
pub record IsCharged (p : Problem) (n limit : ℕ) (tallies : List Tally) (m : Metering) : Type 0 where
  pub newest : Record
  pub kept : Kept
  pub newest_is : m.newest ≡ Some newest
  pub kept_is : newest.kept ≡ Some kept
  pub problem : kept.problem ≡ p
  pub instances : newest.instances ≡ n
  pub variables : newest.limits.variables ≡ limit
  pub final : slice_get kept.tallies 0 ≡ Some 0
  pub levels : length tallies ≡ block_count p
  pub each : (i : ℕ) (t : Tally) → slice_get tallies i ≡ Some t → slice_get kept.tallies (position_of (QueryLane t.winner (i + 2))) ≡ Some t.count

-- how many instances the newest record allows; none before the first record
abbrev pub instance_limit : Metering → ℕ
instance_limit m = limit_in m.newest
  where
    limit_in : Option Record → ℕ
    limit_in None = 0
    limit_in (Some r) = r.limits.instances
