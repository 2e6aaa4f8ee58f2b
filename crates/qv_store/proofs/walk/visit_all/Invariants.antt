-- what is left leads to the same end
use Rattle.std.proofs.Common.{◌≡◌, reverse}
use Rattle.qv_store.specs.Nodes.{tree_at}
use Rattle.qv_store.specs.Walks.{with_subtrees, named, IsBehind}
use Rattle.qv_store.specs.Visits.{seen_after, steps_left, IsVisiting}
use Rattle.qv_store.proofs.walk.visit_all.Given as goal

abbrev pub invariant-todo : goal.invariant-todo
invariant-todo l =
    record {
      visiting : IsVisiting l.store l.met.keys (reverse l.todo.items);
      end : seen_after l.store (named l.store l.met.keys) (reverse l.todo.items) ≡ with_subtrees (named l.store l.fn.met.keys) (tree_at l.store l.fn.id);
      behind : IsBehind l.fn.met.keys l.met.keys;
    }

abbrev pub decreases-todo : goal.decreases-todo
decreases-todo l = steps_left l.store (named l.store l.met.keys) (reverse l.todo.items)
