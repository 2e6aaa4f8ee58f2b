-- what is left has the rest
use Rattle.std.proofs.Common.{◌∷◌, List, [], reverse}
use Rattle.std.specs.Prelude.{Result}
use Rattle.qv_script_defs.specs.Faults.{Fault}
use Rattle.qv_script_defs.specs.Labels.{Label}
use Rattle.qv_script_parts.specs.Walking.{IsOpen, work}
use Rattle.qv_script_parts.proofs.labels.labels_from.Given as goal

abbrev pub invariant-todo : goal.invariant-todo
invariant-todo l = record {
  left : (given : Result (List Label) Fault) → IsOpen l.expr (l.fn.task ∷ []) [] [] given → IsOpen l.expr (reverse l.walk.todo.items) l.walk.bound l.walk.found.items given;
}

abbrev pub decreases-todo : goal.decreases-todo
decreases-todo l = work (reverse l.walk.todo.items)
