use Rattle.std.proofs.Common.{◌≡◌, [], List, ℕ, reverse, length, map, sym, subst, ◌∙◌, ap, arith}
use Rattle.std.proofs.lemmas.List.Elements.{recursion_from_All}
use Rattle.std.specs.Prelude.{Vec}
use Rattle.std.specs.declared.alloc.Global.{Global}
use Rattle.qv_words.specs.declared.sort.Sort.{Sort}
use Rattle.qv_store.proofs.Visiting.{popped-none}
use Rattle.qv_prenex.specs.declared.blocks.Task.{Task}
use Rattle.qv_prenex.specs.Blocks.{sorts_in, tasks_in, first_task, blocks_after, AreTasks}
use Rattle.qv_prenex_matrix.proofs.Trees.{grows-itself}
use Rattle.qv_prenex.proofs.Placing.{conjunction-after, none-after, first-tasks}
use Rattle.qv_prenex.proofs.blocks.blocks_of.Goals as goal

pub todo-init : goal.todo-init
todo-init c =
    let trees = c.args.store.now in
    let items = c.in_ok-todo.ensures in
    let none : c.new-blocks.result.items ≡ [] = c.new-blocks.ensures.items in
    record {
      tasks = subst (AreTasks (length trees) (length c.new-blocks.result.items)) (sym items)
          (subst (λ (n : ℕ). AreTasks (length trees) n (map first_task c.args.formulas.now)) (sym (ap length none))
          (first-tasks (length trees) c.args.formulas.now (recursion_from_All _ c.args.formulas.now c.requires)));
      end = ap (λ (xs : List Task). blocks_after (sorts_in c.new-blocks.result.items) (tasks_in trees xs)) items
          ∙ ap (λ (bs : List (Vec Sort Global)). blocks_after (sorts_in bs) (tasks_in trees (map first_task c.args.formulas.now))) none
          ∙ conjunction-after trees c.args.formulas.now;
      grows = grows-itself trees;
    }

pub returns-clause-blocks : goal.returns-clause-blocks
returns-clause-blocks c =
    let none : c.todo.todo.items ≡ [] = popped-none c.todo.todo.items c.pop.result (λ h. c.pop.ensures.variant.1 (omega (arith, h, c.todo.todo.ok.0))) c.in_default.not-Some in
    sym (none-after (sorts_in c.todo.blocks.items)) ∙ sym (ap (λ (xs : List Task). blocks_after (sorts_in c.todo.blocks.items) (tasks_in c.todo.store (reverse xs))) none) ∙ c.todo.invariant.end
