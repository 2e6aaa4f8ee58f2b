-- the blocks that there are and the tasks that wait make those of the conjunction
use Rattle.std.proofs.Common.{◌≡◌, length, map, reverse}
use Rattle.qv_words.specs.Prenex.{form_of}
use Rattle.qv_words.specs.Problem.{conjunction}
use Rattle.qv_store.specs.Nodes.{tree_at}
use Rattle.qv_store.specs.Stores.{Grows}
use Rattle.qv_prenex.specs.Blocks.{sorts_in, tasks_in, blocks_after, tasks_work, AreTasks}
use Rattle.qv_prenex.proofs.blocks.blocks_of.Given as goal

abbrev pub invariant-todo : goal.invariant-todo
invariant-todo l = record {
  tasks : AreTasks (length l.store) (length l.blocks.items) (reverse l.todo.items);
  end : blocks_after (sorts_in l.blocks.items) (tasks_in l.store (reverse l.todo.items)) ≡ (form_of (conjunction (map (tree_at l.fn.store) l.formulas))).blocks;
  grows : Grows l.fn.store l.store;
}

abbrev pub decreases-todo : goal.decreases-todo
decreases-todo l = tasks_work (tasks_in l.store (reverse l.todo.items))
