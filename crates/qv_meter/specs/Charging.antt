-- What the newest record of a meter may charge, and a meter as a budget of conflicts.
use Rattle.std.specs.Prelude.{◌≡◌, ℕ, min, Option, Some, None, IsSomeAnd, List, slice_get}
use Rattle.qv_words.specs.Tree.{Tree}
use Rattle.qv_words.specs.Linked.{Entry}
use Rattle.qv_cnf.specs.Listing.{Numbered}
use Rattle.qv_cnf.specs.LratLine.{LratLine}
use Rattle.qv_meter.specs.Units.{InstanceUnit, MayGoOn, IsInstance, IsOverLarge}
use Rattle.qv_meter.specs.Records.{Record, Kept, Metering, IsMetering, position_of, with_newest, with_conflicts}

-- the newest record keeps a problem of which this holds
abbrev pub OfNewest : Metering → (Record → Kept → Type 0) → Type 0
OfNewest m P = IsSomeAnd m.newest (λ r. IsSomeAnd r.kept (P r))

-- a base with steps that a conflict of the present lane may follow
abbrev pub MayCharge : Metering → List Numbered → List LratLine → Type 0
MayCharge m base steps =
    OfNewest m (λ r k. (tally : ℕ) × (slice_get k.tallies (position_of m.lane) ≡ Some tally) × MayGoOn k.problem r.instances m.lane tally base steps)

-- an instance that may be charged
abbrev pub MayChargeInstance : Metering → InstanceUnit → Type 0
MayChargeInstance m unit = OfNewest m (λ r k. IsInstance k.problem r.instances unit)

-- a list of these entries has more variables than the newest record's limit
abbrev pub ExceedsVariables : Metering → List Entry → List Tree → Type 0
ExceedsVariables m entries formulas = OfNewest m (λ r k. IsOverLarge k.problem r.instances entries r.limits.variables formulas)

-- the limit and the count of conflicts; before the first record both are 0
abbrev pub conflict_limit : Metering → ℕ
conflict_limit m = limit_in m.newest
  where
    limit_in : Option Record → ℕ
    limit_in None = 0
    limit_in (Some r) = r.limits.conflicts

-- a count is never above its limit
abbrev pub conflict_count : Metering → ℕ
conflict_count m = count_in m.newest
  where
    count_in : Option Record → ℕ
    count_in None = 0
    count_in (Some r) = min r.conflicts r.limits.conflicts

-- a meter as if none of its newest record's conflicts had been counted, nor those of the present
-- lane
abbrev pub without_conflicts : Metering → Metering
without_conflicts m = with_newest (with_conflicts m.lane (λ n. 0)) m

-- nothing differs but the newest record's conflicts and its tally of the present lane, and what
-- holds of each meter holds still
pub record SameButConflicts (a b : Metering) : Type 0 where
  pub same : without_conflicts a ≡ without_conflicts b
  pub kept : IsMetering a → IsMetering b
