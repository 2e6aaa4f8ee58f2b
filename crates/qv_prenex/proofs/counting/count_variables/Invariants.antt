-- what is counted and what is left are all
use Rattle.std.proofs.Common.{◌≡◌, ◌+◌, ◌-◌, ◌≤◌, length, map, reverse}
use Rattle.std.specs.Prelude.{sum}
use Rattle.qv_store.specs.Nodes.{tree_at}
use Rattle.qv_store.specs.Stores.{Grows}
use Rattle.qv_prenex_laws.specs.FormLaws.{all_lengths}
use Rattle.qv_prenex_matrix.specs.Waiting.{parts_in, variables_of, work, AreBelow}
use Rattle.qv_prenex.proofs.counting.count_variables.Given as goal

abbrev pub invariant-todo : goal.invariant-todo
invariant-todo l = record {
  below : AreBelow (length l.store) (reverse l.todo.items);
  within : l.left ≤ l.room;
  count : sum (all_lengths (map (tree_at l.fn.store) l.formulas)) + l.left ≡ l.room + variables_of (parts_in l.store (reverse l.todo.items));
  grows : Grows l.fn.store l.store;
}

abbrev pub decreases-todo : goal.decreases-todo
decreases-todo l = work (parts_in l.store (reverse l.todo.items))
