use Rattle.std.proofs.Common.{◌-◌, length, map}
use Rattle.qv_store.specs.Nodes.{tree_at}
use Rattle.qv_store.specs.Stores.{Grows}
use Rattle.qv_meter.specs.Views.{limits_of}
use Rattle.qv_solve_cores.specs.Trying.{IsAsFar}
use Rattle.qv_solve_cores.proofs.cores.try_each.Given as goal

-- so far each item was tried
abbrev pub invariant-trials : goal.invariant-trials
invariant-trials l = record {
  grows : Grows l.initial.store l.store;
  far : IsAsFar (limits_of l.limits) (map (tree_at l.initial.store) l.assertions) l.named l.initial.meter l.meter l.initial.course l.course;
}

abbrev pub decreases-trials : goal.decreases-trials
decreases-trials l = length l.course.search.kept - l.course.search.next
