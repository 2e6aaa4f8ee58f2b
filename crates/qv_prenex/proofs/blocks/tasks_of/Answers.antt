use Rattle.std.proofs.Common.{ap, ◌∙◌, ◌++◌, List, map, reverse, append-nil}
use Rattle.qv_prenex.specs.declared.blocks.Task.{Task}
use Rattle.qv_prenex_matrix.specs.Waiting.{under_plus}
use Rattle.qv_prenex.specs.Blocks.{at_block}
use Rattle.qv_prenex.proofs.Tasks.{tasks-behind, first-tasks}
use Rattle.qv_prenex.proofs.blocks.tasks_of.Goals as goal

pub returns : goal.returns
returns c =
    let ns = c.args.formulas.now in
    tasks-behind 0 c.deref.result.now (map under_plus ns) c.in_ok-todo.todo.items c.push_at.new.todo.items c.in_ok-push_at.ensures (ap reverse c.deref.ensures.value ∙ c.in_ok-parts.ensures)
    ∙ ap (λ (ts : List Task). map (at_block 0) (map under_plus ns) ++ reverse ts) c.in_ok-todo.ensures.items ∙ append-nil (map (at_block 0) (map under_plus ns)) ∙ first-tasks ns
