-- What play changes in a meter.
use Rattle.std.specs.Prelude.{◌≡◌, false, option_map, []}
use Rattle.qv_meter.specs.Units.{Final}
use Rattle.qv_meter.specs.Records.{Kept, Record, Metering, in_lane, with_newest}

-- a record as if nothing had been charged
abbrev pub uncounted : Record → Record
uncounted r = record {
  kept = option_map (λ (k : Kept). record { problem = k.problem; tallies = [] }) r.kept;
  limits = r.limits;
  conflicts = 0;
  instances = 0;
  over = false;
}

-- a meter as if nothing had been charged to its newest record, and no lane been named
abbrev pub without_counts : Metering → Metering
without_counts m = in_lane Final (with_newest uncounted m)

-- nothing differs but the newest record's counts with their tallies, its `over`, and the lane that
-- is charged
abbrev pub SameButCounts : Metering → Metering → Type 0
SameButCounts a b = without_counts a ≡ without_counts b
