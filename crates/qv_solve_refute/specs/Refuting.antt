-- A meter that is charged for the refutation of a final list.
use Rattle.std.specs.Prelude.{◌≡◌, ℕ, ◌<◌, ◌≤◌, Option, Some, None, IsSomeAnd, Result, Ok, Err, List, [], ◌++◌, slice_get}
use Rattle.qv_words.specs.Tree.{Tree}
use Rattle.qv_words.specs.Clauses.{cnf_variables}
use Rattle.qv_words.specs.Linked.{Entry}
use Rattle.qv_words.specs.GameLaws.{IsProblem}
use Rattle.qv_meter.specs.declared.faults.PlayFault.{PlayFault}
use Rattle.qv_meter.specs.declared.faults.PlayFault.TheVariants.{Spent, NoMemory}
use Rattle.qv_meter.specs.declared.records.SpentKind.TheVariants.{Conflicts, Instances, Variables}
use Rattle.qv_meter.specs.Charging.{OfNewest, SameButConflicts}
use Rattle.qv_meter.specs.Records.{Metering, Record, IsSpentIn, after_variables, in_lane}
use Rattle.qv_meter.specs.Units.{Final, IsFinal}
use Rattle.qv_meter.specs.Views.{quantity_of}
use Rattle.qv_cnf.specs.LratLine.{LratLine, lines_of}
use Rattle.qv_solve_refute.specs.declared.refuting.Refutation.{Refutation}
use Rattle.qv_solve_refute.specs.declared.refuting.Refutation.TheVariants.{Noted, Closed, Searched}

-- what was played for the newest record's problem has this final list, for which no conflict was
-- charged yet
abbrev pub IsForFinal : Metering → List Tree → Type 0
IsForFinal m formulas = OfNewest m (λ r k. IsProblem k.problem × ((entries : List Entry) × IsFinal k.problem r.instances entries formulas) × (slice_get k.tallies 0 ≡ Some 0))

-- what is charged: conflicts of the final lane alone, or that the list has too many variables
abbrev pub IsCharged : {A : Type 0} → Metering → Metering → Result A PlayFault → Type 0
IsCharged before after (Ok x) = SameButConflicts (in_lane Final before) after
IsCharged before after (Err NoMemory) = SameButConflicts (in_lane Final before) after
IsCharged before after (Err (Spent Conflicts)) = SameButConflicts (in_lane Final before) after
IsCharged before after (Err (Spent Instances)) = ⊥
IsCharged before after (Err (Spent Variables)) = after ≡ after_variables (in_lane Final before)

-- the newest record is spent in what a fault names
abbrev pub IsSpentBy : Metering → PlayFault → Type 0
IsSpentBy m (Spent kind) = IsSomeAnd m.newest (IsSpentIn (quantity_of kind))
IsSpentBy m NoMemory = Unit {0}

-- the limit of variables of the newest record
abbrev pub variable_limit : Metering → ℕ
variable_limit m = limit_in m.newest
  where
    limit_in : Option Record → ℕ
    limit_in None = 1
    limit_in (Some r) = r.limits.variables

-- the formulas take more variables than the limit exactly where that is what came, unless memory
-- ran out
abbrev pub IsMeasured : {A : Type 0} → Metering → List Tree → Result A PlayFault → Type 0
IsMeasured m formulas (Ok x) = cnf_variables formulas ≤ variable_limit m
IsMeasured m formulas (Err NoMemory) = Unit {0}
IsMeasured m formulas (Err (Spent Conflicts)) = cnf_variables formulas ≤ variable_limit m
IsMeasured m formulas (Err (Spent Instances)) = ⊥
IsMeasured m formulas (Err (Spent Variables)) = variable_limit m < cnf_variables formulas

-- the steps of a refutation, beside those that were noted: in front of a search those of closure,
-- and others behind them
abbrev pub laid_in : Refutation → List LratLine
laid_in Noted = []
laid_in (Closed steps) = []
laid_in (Searched laid) = lines_of laid.steps.items

abbrev pub found_in : List LratLine → Refutation → List LratLine
found_in noted Noted = noted
found_in noted (Closed steps) = lines_of steps.items
found_in noted (Searched laid) = laid.core.steps

abbrev pub steps_in : List LratLine → Refutation → List LratLine
steps_in noted refutation = laid_in refutation ++ found_in noted refutation

-- nothing was searched
abbrev pub IsFree : Refutation → Type 0
IsFree Noted = Unit {0}
IsFree (Closed steps) = Unit {0}
IsFree (Searched laid) = ⊥
