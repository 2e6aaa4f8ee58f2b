-- what waits leads to the same end
use Rattle.std.proofs.Common.{◌≡◌, true, reverse, map, [], ◌∷◌}
use Rattle.qv_words.specs.Sorted.{no_levels}
use Rattle.qv_store.specs.Nodes.{tree_at}
use Rattle.qv_store.specs.Stores.{Grows}
use Rattle.qv_prenex_laws.specs.MatrixLaws.{matrix_under}
use Rattle.qv_prenex_splits.specs.Naming.{place_of}
use Rattle.qv_prenex_matrix.specs.NextLevels.{next_of}
use Rattle.qv_prenex_matrix.specs.Matrix.{IsRunning, end_of, cursor_at, tasks_work, task_in}
use Rattle.qv_prenex_matrix.proofs.matrix.matrix_of.Given as goal

abbrev pub invariant-todo : goal.invariant-todo
invariant-todo l = record {
  grows : Grows l.fn.store l.store;
  running : IsRunning l.store (reverse l.machine.todo.items) (reverse l.machine.results.items) l.machine.names l.machine.made;
  end : end_of l.store (reverse l.machine.todo.items) (reverse l.machine.results.items) l.machine.names l.machine.levels
      ≡ matrix_under (place_of l.fn.names.constants.keys) true (tree_at l.fn.store l.fn.formula) (cursor_at no_levels (next_of l.fn.levels.next.items l.fn.levels.total) 0) ∷ [];
}

abbrev pub decreases-todo : goal.decreases-todo
decreases-todo l = tasks_work (map (task_in l.store) (reverse l.machine.todo.items))
