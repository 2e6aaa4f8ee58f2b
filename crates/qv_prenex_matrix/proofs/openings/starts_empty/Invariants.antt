-- what is left says whether the first block is empty
use Rattle.std.proofs.Common.{◌≡◌, length, reverse}
use Rattle.qv_store.specs.Nodes.{tree_at}
use Rattle.qv_store.specs.Stores.{Grows}
use Rattle.qv_prenex_laws.specs.FormLaws.{lengths_under}
use Rattle.qv_prenex_laws.specs.MatrixLaws.{starts_empty}
use Rattle.qv_prenex_matrix.specs.Waiting.{parts_in, all_start_empty, work, AreBelow}
use Rattle.qv_prenex_matrix.proofs.openings.starts_empty.Given as goal

abbrev pub invariant-todo : goal.invariant-todo
invariant-todo l = record {
  below : AreBelow (length l.store) (reverse l.todo.items);
  empty : starts_empty (lengths_under l.fn.part.plus (tree_at l.fn.store l.fn.part.term)) ≡ all_start_empty (parts_in l.store (reverse l.todo.items));
  grows : Grows l.fn.store l.store;
}

abbrev pub decreases-todo : goal.decreases-todo
decreases-todo l = work (parts_in l.store (reverse l.todo.items))
