-- what is left is drawn from the tasks
use Rattle.std.proofs.Common.{◌-◌, length}
use Rattle.qv_words.specs.Linked.{tree_of}
use Rattle.qv_store.specs.Stores.{Grows}
use Rattle.qv_store.specs.Problems.{problem_in}
use Rattle.qv_entries.specs.Rows.{entries_in}
use Rattle.qv_expand.specs.Charges.{OnlyCounts}
use Rattle.qv_expand.specs.Growth.{IsExpanding}
use Rattle.qv_expand.proofs.Tour.{IsOnTour}
use Rattle.qv_expand.proofs.expanding.draw.Given as goal

abbrev pub invariant-tasks : goal.invariant-tasks
invariant-tasks l = record {
  grows : Grows l.fn.store l.store;
  only : OnlyCounts l.fn.meter l.meter;
  expanding : IsExpanding l.store l.problem l.entries l.meter l.growing;
  tour : IsOnTour (problem_in l.fn.store l.problem) (entries_in l.fn.store l.entries) l.store l.growing l.tasks.items;
}

abbrev pub decreases-tasks : goal.decreases-tasks
decreases-tasks l = length (tree_of (problem_in l.fn.store l.problem) (entries_in l.fn.store l.entries)) - length l.growing.lines.items
