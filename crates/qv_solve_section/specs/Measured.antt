-- What is measured and charged for a list behind some passes.
use Rattle.std.specs.Prelude.{◌<◌, ◌≤◌, List}
use Rattle.qv_words.specs.Tree.{Tree}
use Rattle.qv_words.specs.Clauses.{cnf_variables}
use Rattle.qv_meter.specs.declared.faults.PlayFault.{PlayFault}
use Rattle.qv_meter.specs.declared.faults.PlayFault.TheVariants.{Spent, NoMemory}
use Rattle.qv_meter.specs.declared.records.SpentKind.TheVariants.{Conflicts, Instances, Variables}
use Rattle.qv_meter.specs.Records.{Metering}
use Rattle.qv_rewrite_passes.specs.declared.pass.Pass.{Pass}
use Rattle.qv_rewrite_passes.specs.Passes.{behind_all, EachChanges, IsBehind}
use Rattle.qv_solve_refute.specs.Refuting.{IsForFinal, variable_limit}

-- each list behind passes of the first is a final list of the newest record's play
abbrev pub EachIsForFinal : Metering → List Tree → Type 0
EachIsForFinal m first = (formulas : List Tree) → IsBehind first formulas → IsForFinal m formulas

-- a list behind passes, each of which changes what is before it, takes as many variables as the
-- limit at most, or more
abbrev pub OneIsWithin : Metering → List Tree → Type 0
OneIsWithin m first = (passes : List Pass) × EachChanges passes first × (cnf_variables (behind_all passes first) ≤ variable_limit m)

abbrev pub OneIsBeyond : Metering → List Tree → Type 0
OneIsBeyond m first = (passes : List Pass) × EachChanges passes first × (variable_limit m < cnf_variables (behind_all passes first))

-- such a list takes more exactly where a fault names variables, unless memory ran out
abbrev pub IsFaultBehind : Metering → List Tree → PlayFault → Type 0
IsFaultBehind m first NoMemory = Unit {0}
IsFaultBehind m first (Spent Conflicts) = OneIsWithin m first
IsFaultBehind m first (Spent Instances) = ⊥
IsFaultBehind m first (Spent Variables) = OneIsBeyond m first
