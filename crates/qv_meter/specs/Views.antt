-- What the types of the meter mean.
use Rattle.std.specs.Prelude.{Option, option_map, List, map}
use Rattle.qv_words.specs.Tree.{Tree}
use Rattle.qv_store.specs.Problems.{problem_in, quantifier_of}
use Rattle.qv_entries.specs.Rows.{entries_in, entry_in, row_of}
use Rattle.qv_meter.specs.declared.lanes.Lane.{Lane as DeclaredLane}
use Rattle.qv_meter.specs.declared.lanes.Lane.TheVariants.{Query as DeclaredQuery, Final as DeclaredFinal}
use Rattle.qv_meter.specs.declared.records.Limits.{Limits as DeclaredLimits}
use Rattle.qv_meter.specs.declared.records.Kept.{Kept as DeclaredKept}
use Rattle.qv_meter.specs.declared.records.Record.{Record as DeclaredRecord}
use Rattle.qv_meter.specs.declared.units.InstanceUnit.{InstanceUnit as DeclaredUnit}
use Rattle.qv_meter.specs.declared.units.InstanceUnit.TheVariants.{Entry, TreeLine}
use Rattle.qv_meter.specs.declared.records.SpentKind.{SpentKind}
use Rattle.qv_meter.specs.declared.records.SpentKind.TheVariants.{Conflicts as DeclaredConflicts, Instances as DeclaredInstances, Variables as DeclaredVariables}
use Rattle.qv_meter.specs.Units.{Lane, Query, Final, InstanceUnit, EntryUnit, LineUnit}
use Rattle.qv_meter.specs.Records.{Limits, Kept, Record, Metering, Quantity, Conflicts, Instances, Variables}

abbrev pub lane_of : DeclaredLane → Lane
lane_of (DeclaredQuery winner level) = Query (quantifier_of winner) level
lane_of DeclaredFinal = Final

abbrev pub limits_of : DeclaredLimits → Limits
limits_of l = record { conflicts = l.conflicts; instances = l.instances; variables = l.variables }

-- a problem that is kept is read in the store beside it
abbrev pub kept_of : DeclaredKept → Kept
kept_of k = record { problem = problem_in k.store k.problem; tallies = k.tallies.items }

abbrev pub record_of : DeclaredRecord → Record
record_of r = record {
  kept = option_map kept_of r.problem;
  limits = limits_of r.limits;
  conflicts = r.conflicts;
  instances = r.instances;
  over = r.over;
}

abbrev pub metering_of : List DeclaredRecord → Option DeclaredRecord → DeclaredLane → Metering
metering_of older newest lane = record {
  older = map record_of older;
  newest = option_map record_of newest;
  lane = lane_of lane;
}

-- an instance, read in a store
abbrev pub unit_in : List Tree → DeclaredUnit → InstanceUnit
unit_in trees (Entry entries entry) = EntryUnit (entries_in trees entries.now) (entry_in trees (row_of entry.now))
unit_in trees (TreeLine entries path) = LineUnit (entries_in trees entries.now) path.now

abbrev pub quantity_of : SpentKind → Quantity
quantity_of DeclaredConflicts = Conflicts
quantity_of DeclaredInstances = Instances
quantity_of DeclaredVariables = Variables
