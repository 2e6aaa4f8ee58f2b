use Rattle.std.proofs.Common.{◌∷◌, ◌++◌, List, [], ℕ, reverse, ap, subst, ◌∙◌}
use Rattle.qv_script_parts.specs.declared.labels.Task.{Task}
use Rattle.qv_script_parts.specs.Walking.{IsOpen}
use Rattle.qv_script_parts.proofs.Walks.{name-ends}
use Rattle.qv_script_parts.proofs.labels.Walk.next.Goals as goal

pub returns-in_ok-reserve-in-Named-clause-next : goal.returns-in_ok-reserve-in-Named-clause-next
returns-in_ok-reserve-in-Named-clause-next c = λ given h.
    let a = c.args in
    let w = a.self.now in
    name-ends a.expr.now c.in-Named.at (reverse w.todo.items) w.bound w.found.items given c.push_reserved.new.self.items
    (c.push_reserved.ensures.items ∙ ap (λ (q : List ℕ). q ++ c.in-Named.at ∷ []) c.reserve.ensures.items)
    (subst (λ (t : Task). IsOpen a.expr.now (t ∷ reverse w.todo.items) w.bound w.found.items given) c.in-Named.is h)
