use Rattle.std.proofs.Common.{ap, ◌∙◌, ◌++◌, List, reverse, append-nil}
use Rattle.qv_prenex_matrix.specs.declared.rules.Part.{Part}
use Rattle.qv_prenex_matrix.specs.Rules.{parts_over}
use Rattle.qv_prenex.proofs.Tasks.{tasks-behind, on-ok}
use Rattle.qv_prenex.proofs.blocks.push_tasks.Goals as goal

pub returns : goal.returns
returns c =
    let over = parts_over c.args.plus c.args.rule.now in
    on-ok c.push_at.result (λ e. tasks-behind c.args.block c.deref.result.now over c.args.todo.now.items c.push_at.new.todo.items e
    (ap reverse c.deref.ensures.value ∙ c.in_ok-push_parts.ensures ∙ ap (λ (xs : List Part). over ++ reverse xs) c.new-parts.ensures.items ∙ append-nil over)) c.push_at.ensures
