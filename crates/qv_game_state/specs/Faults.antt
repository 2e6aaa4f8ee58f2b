-- When play gives up.
use Rattle.std.specs.Prelude.{◌≡◌, Err, Result, IsSomeAnd}
use Rattle.qv_meter.specs.Records.{Metering, IsSpentIn}
use Rattle.qv_meter.specs.Views.{quantity_of}
use Rattle.qv_meter.specs.declared.records.SpentKind.{SpentKind}
use Rattle.qv_meter.specs.declared.faults.PlayFault.{PlayFault}
use Rattle.qv_meter.specs.declared.faults.PlayFault.TheVariants.{Spent}

-- where the answer is that a quantity is spent, the newest record is spent in it
abbrev pub IsSpentWhere : {T : Type 0} → Result T PlayFault → Metering → Type 0
IsSpentWhere result m = (kind : SpentKind) → result ≡ Err (Spent kind) → IsSomeAnd m.newest (IsSpentIn (quantity_of kind))
