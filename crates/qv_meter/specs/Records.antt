-- What a meter keeps: a record for each problem, the newest last, and the lane that is charged now.
use Rattle.std.specs.Prelude.{◌≡◌, ℕ, ◌+◌, ◌-◌, ◌*◌, ◌≤◌, ◌<◌, ◌^◌, Bool, true, false, Option, Some, None, IfSome, option_to_list, option_map, List, [], ◌++◌, length, replicate, set, slice_get, slice_index, sum, All}
use Rattle.qv_words.specs.Problem.{Problem, Existential, Universal}
use Rattle.qv_meter.specs.Queries.{block_count, IsQueryLevel}
use Rattle.qv_meter.specs.Units.{AreConflicts, AreInstances, AreTooMany, Lane, Query, Final}

pub record Limits : Type 0 where
  pub conflicts : ℕ
  pub instances : ℕ
  pub variables : ℕ

-- a problem that is kept, and how many conflicts were charged to each lane
pub record Kept : Type 0 where
  pub problem : Problem
  pub tallies : List ℕ

pub record Record : Type 0 where
  pub kept : Option Kept
  pub limits : Limits
  pub conflicts : ℕ
  pub instances : ℕ
  pub over : Bool

pub record Metering : Type 0 where
  pub older : List Record
  pub newest : Option Record
  pub lane : Lane

abbrev pub records_of : Metering → List Record
records_of m = m.older ++ option_to_list m.newest

-- where a lane's tally stands: first that of the final list, then level by level that of the
-- existential player and that of the universal one
abbrev pub position_of : Lane → ℕ
position_of Final = 0
position_of (Query Existential level) = 2 * level - 3
position_of (Query Universal level) = 2 * level - 2

abbrev pub lane_count : Problem → ℕ
lane_count p = 2 * block_count p + 1

-- a lane of a problem
abbrev pub IsLaneOf : Problem → Lane → Type 0
IsLaneOf p Final = Unit {0}
IsLaneOf p (Query winner level) = IsQueryLevel p level

-- what may be spent
pub data Quantity : Type 0 where
  Conflicts : Quantity
  Instances : Quantity
  Variables : Quantity

abbrev pub IsSpentIn : Quantity → Record → Type 0
IsSpentIn Conflicts r = r.conflicts ≡ r.limits.conflicts
IsSpentIn Instances r = r.instances ≡ r.limits.instances
IsSpentIn Variables r = r.over ≡ true

-- a record is spent where one of its quantities is
abbrev pub IsSpent : Record → Type 0
IsSpent r = (q : Quantity) × IsSpentIn q r

-- the limits that a record may have
pub record AreLimits (l : Limits) : Type 0 where
  pub conflicts : (1 ≤ l.conflicts) × (l.conflicts < 2 ^ 60)
  pub instances : (1 ≤ l.instances) × (l.instances < 2 ^ 60)
  pub variables : (1 ≤ l.variables) × (l.variables ≤ 2 ^ 30)

-- the tallies of a kept problem: one for each lane, and together the conflicts
pub record AreTallies (conflicts : ℕ) (k : Kept) : Type 0 where
  pub each : length k.tallies ≡ lane_count k.problem
  pub together : sum k.tallies ≡ conflicts

-- what the counts of a record stand for, while its problem is kept: each lane's tally for the
-- additions of a derivation, the instances for a list that was played and lines of its tree
pub record IsWorked (r : Record) (k : Kept) : Type 0 where
  pub conflicts : (lane : Lane) (tally : ℕ) → IsLaneOf k.problem lane → slice_get k.tallies (position_of lane) ≡ Some tally → 1 ≤ tally → AreConflicts k.problem r.instances lane tally
  pub instances : AreInstances k.problem r.instances
  pub variables : r.over ≡ true → AreTooMany k.problem r.instances r.limits.variables

-- what holds of each record
pub record IsRecord (r : Record) : Type 0 where
  pub limits : AreLimits r.limits
  pub conflicts : r.conflicts ≤ r.limits.conflicts
  pub instances : r.instances ≤ r.limits.instances
  pub tallies : IfSome r.kept (AreTallies r.conflicts)
  pub worked : IfSome r.kept (IsWorked r)

-- a lane of the newest record's problem is charged
abbrev pub IsPresent : Lane → Record → Type 0
IsPresent lane r = IfSome r.kept (λ k. IsLaneOf k.problem lane)

-- what holds of each meter
pub record IsMetering (m : Metering) : Type 0 where
  pub older : All IsRecord m.older
  pub newest : IfSome m.newest IsRecord
  pub lane : IfSome m.newest (IsPresent m.lane)

-- What the calls make of a meter.

-- a problem before any conflict
abbrev pub first_kept : Problem → Kept
first_kept p = record { problem = p; tallies = replicate (lane_count p) 0 }

-- a new record at the start
abbrev pub first_record : Problem → Limits → Record
first_record p limits = record {
  kept = Some (first_kept p);
  limits = limits;
  conflicts = 0;
  instances = 0;
  over = false;
}

abbrev pub started : Problem → Limits → Metering → Metering
started p limits m = record { older = records_of m; newest = Some (first_record p limits); lane = Final }

-- no record yet
abbrev pub no_records : Metering
no_records = record { older = []; newest = None; lane = Final }

abbrev pub in_lane : Lane → Metering → Metering
in_lane lane m = record { older = m.older; newest = m.newest; lane = lane }

-- a change of the newest record alone
abbrev pub with_newest : (Record → Record) → Metering → Metering
with_newest change m = record { older = m.older; newest = option_map change m.newest; lane = m.lane }

-- a tally set to another number
abbrev pub with_tally : Lane → (ℕ → ℕ) → Kept → Kept
with_tally lane change k = record {
  problem = k.problem;
  tallies = set k.tallies (position_of lane) (change (slice_index k.tallies (position_of lane)));
}

-- another count of conflicts and another tally of a lane
abbrev pub with_conflicts : Lane → (ℕ → ℕ) → Record → Record
with_conflicts lane change r = record {
  kept = option_map (with_tally lane change) r.kept;
  limits = r.limits;
  conflicts = change r.conflicts;
  instances = r.instances;
  over = r.over;
}

-- one more conflict of the present lane
abbrev pub after_conflict : Metering → Metering
after_conflict m = with_newest (with_conflicts m.lane (λ n. n + 1)) m

abbrev pub one_more_instance : Record → Record
one_more_instance r = record { kept = r.kept; limits = r.limits; conflicts = r.conflicts; instances = r.instances + 1; over = r.over }

abbrev pub after_instance : Metering → Metering
after_instance m = with_newest one_more_instance m

abbrev pub over_large : Record → Record
over_large r = record { kept = r.kept; limits = r.limits; conflicts = r.conflicts; instances = r.instances; over = true }

abbrev pub after_variables : Metering → Metering
after_variables m = with_newest over_large m

-- a record whose problem is given up
abbrev pub without_problem : Record → Record
without_problem r = record { kept = None; limits = r.limits; conflicts = r.conflicts; instances = r.instances; over = r.over }

abbrev pub settled : Metering → Metering
settled m = with_newest without_problem m
