-- What pins the meter down.
use Rattle.std.specs.Prelude.{◌≡◌, ℕ, ◌+◌, ◌<◌, IsSomeAnd, List, [], ◌∷◌, ◌++◌, ◌≢◌, slice_get, Some}
use Rattle.qv_words.specs.Tree.{Tree}
use Rattle.qv_words.specs.Problem.{Problem}
use Rattle.qv_words.specs.Linked.{Entry}
use Rattle.qv_cnf.specs.Literal.{Literal}
use Rattle.qv_cnf.specs.Listing.{Numbered}
use Rattle.qv_cnf.specs.LratLine.{LratLine}
use Rattle.qv_cnf.specs.Derivation.{IsDerivation, addition_of}
use Rattle.qv_meter.specs.Units.{InstanceUnit, Lane}
use Rattle.qv_meter.specs.Records.{Kept, Record, Limits, Metering, IsMetering, AreLimits, IsLaneOf, lane_count, position_of, no_records, started, in_lane, after_conflict, after_instance, after_variables, settled}
use Rattle.qv_meter.specs.Charging.{ExceedsVariables, MayCharge, MayChargeInstance, OfNewest, conflict_count, conflict_limit, SameButConflicts}

-- each lane of a problem has a tally of its own
abbrev pub LanesHavePositions : Type 0
LanesHavePositions =
    (p : Problem) (a b : Lane) → IsLaneOf p a → IsLaneOf p b →
    (position_of a < lane_count p) × (position_of a ≡ position_of b → a ≡ b)

-- what holds of each meter holds of the first one, and still holds after each call
abbrev pub CallsKeepMeters : Type 0
CallsKeepMeters =
    IsMetering no_records
    × ((p : Problem) (limits : Limits) (m : Metering) → AreLimits limits → IsMetering m → IsMetering (started p limits m))
    × ((lane : Lane) (m : Metering) → OfNewest m (λ r k. IsLaneOf k.problem lane) → IsMetering m → IsMetering (in_lane lane m))
    × ((m : Metering) (base : List Numbered) (steps : List LratLine) (id : ℕ) (lits : List Literal) (hints : List ℕ) →
    MayCharge m base steps → IsDerivation base (steps ++ addition_of id lits hints ∷ []) → conflict_count m < conflict_limit m → IsMetering m → IsMetering (after_conflict m))
    × ((m : Metering) (unit : InstanceUnit) → MayChargeInstance m unit → IsSomeAnd m.newest (λ r. r.instances < r.limits.instances) → IsMetering m → IsMetering (after_instance m))
    × ((m : Metering) (entries : List Entry) (formulas : List Tree) → ExceedsVariables m entries formulas → IsMetering m → IsMetering (after_variables m))
    × ((m : Metering) → IsMetering m → IsMetering (settled m))

-- a conflict is counted, changes nothing else, and leaves what the next one may follow
abbrev pub ConflictsAreCounted : Type 0
ConflictsAreCounted =
    (m : Metering) (base : List Numbered) (steps : List LratLine) (id : ℕ) (lits : List Literal) (hints : List ℕ) →
    IsMetering m → MayCharge m base steps → IsDerivation base (steps ++ addition_of id lits hints ∷ []) → conflict_count m < conflict_limit m →
    (conflict_count (after_conflict m) ≡ conflict_count m + 1) × SameButConflicts m (after_conflict m)
    × MayCharge (after_conflict m) base (steps ++ addition_of id lits hints ∷ [])

-- a newest record with a problem, before and after some conflicts of the present lane: only its
-- count and that lane's tally differ
pub record DiffersInConflicts (a b : Metering) (r : Record) (k : Kept) : Type 0 where
  pub record_after : Record
  pub kept_after : Kept
  pub newest : b.newest ≡ Some record_after
  pub kept : record_after.kept ≡ Some kept_after
  pub older : b.older ≡ a.older
  pub lane : b.lane ≡ a.lane
  pub limits : record_after.limits ≡ r.limits
  pub instances : record_after.instances ≡ r.instances
  pub over : record_after.over ≡ r.over
  pub problem : kept_after.problem ≡ k.problem
  pub tallies : (n : ℕ) → n ≢ position_of a.lane → slice_get kept_after.tallies n ≡ slice_get k.tallies n

-- that is what the relation says
abbrev pub OnlyConflictsDiffer : Type 0
OnlyConflictsDiffer =
    (a b : Metering) (r : Record) (k : Kept) → SameButConflicts a b → a.newest ≡ Some r → r.kept ≡ Some k → DiffersInConflicts a b r k
