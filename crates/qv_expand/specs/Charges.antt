-- What drawing a tree makes of a meter.
use Rattle.std.specs.Prelude.{◌≡◌, ℕ, ◌+◌, IsSomeAnd, List, length}
use Rattle.qv_words.specs.Problem.{Problem}
use Rattle.qv_words.specs.Linked.{Entry}
use Rattle.qv_meter.specs.declared.faults.PlayFault.{PlayFault}
use Rattle.qv_meter.specs.declared.faults.PlayFault.TheVariants.{Spent, NoMemory}
use Rattle.qv_meter.specs.Views.{quantity_of}
use Rattle.qv_meter.specs.Records.{Kept, Metering, Record, Instances, IsSpentIn, with_newest}

-- so many instances more of the newest record, and nothing else changed
abbrev pub record_with : ℕ → Record → Record
record_with n r = record { kept = r.kept; limits = r.limits; conflicts = r.conflicts; instances = r.instances + n; over = r.over }

abbrev pub more_instances : ℕ → Metering → Metering
more_instances n m = with_newest (record_with n) m

-- nothing else than instances was counted
pub record OnlyCounts (before after : Metering) : Type 0 where
  pub count : ℕ
  pub counted : after ≡ more_instances count before

-- the newest record is of this problem and counts these entries, and so many lines behind them
abbrev pub HasCounted : Problem → List Entry → ℕ → Record → Kept → Type 0
HasCounted p entries lines r k = (k.problem ≡ p) × (r.instances ≡ length entries + lines)

-- a meter is spent only in instances, and then its newest record is so
abbrev pub IsFault : Metering → PlayFault → Type 0
IsFault m (Spent kind) = (quantity_of kind ≡ Instances) × IsSomeAnd m.newest (IsSpentIn Instances)
IsFault m NoMemory = Unit {0}
