use Rattle.std.proofs.Common.{ℕ, List, ◌∷◌, Some, None, reverse, length, sym, ap, subst}
use Rattle.qv_prenex_matrix.specs.declared.matrix.Task.{Task}
use Rattle.qv_prenex_matrix.specs.Matrix.{IsNext, IsTaskBelow}
use Rattle.qv_prenex_matrix.proofs.MatrixSteps.{leave-step, both-ok, one-below}
use Rattle.qv_prenex_matrix.proofs.matrix.run.Goals as goal

pub returns-in-Back-clause-next : goal.returns-in-Back-clause-next
returns-in-Back-clause-next c =
    let trees = c.args.store.now in
    let m = c.args.machine.now in
    let n = c.unbind.new.machine in
    let todo = reverse m.todo.items in
    let results = reverse m.results.items in
    both-ok c.unbind.result (λ outer made.
    subst (λ (ts : List Task). IsNext trees trees (c.args.task ∷ todo) ts results (reverse n.results.items) m.names n.names n.made m.levels n.levels) (sym (ap reverse c.unbind.ensures.todo))
    (subst (λ (rs : List ℕ). IsNext trees trees (c.args.task ∷ todo) todo results rs m.names n.names n.made m.levels n.levels) (sym (ap reverse c.unbind.ensures.results))
    (leave-step trees c.args.task c.in-Back.level (Some c.in-Back.id) todo results m.names n.names m.made n.made m.levels n.levels c.in-Back.is c.requires outer c.unbind.ensures.constants c.unbind.ensures.next c.unbind.ensures.total made
    (one-below c.in-Back.id (length trees) (subst (IsTaskBelow (length trees)) c.in-Back.is c.requires.tasks.0)))))
    c.unbind.ensures.outer c.unbind.ensures.made

pub returns-in-Free-clause-next : goal.returns-in-Free-clause-next
returns-in-Free-clause-next c =
    let trees = c.args.store.now in
    let m = c.args.machine.now in
    let n = c.unbind-in-Free.new.machine in
    let todo = reverse m.todo.items in
    let results = reverse m.results.items in
    both-ok c.unbind-in-Free.result (λ outer made.
    subst (λ (ts : List Task). IsNext trees trees (c.args.task ∷ todo) ts results (reverse n.results.items) m.names n.names n.made m.levels n.levels) (sym (ap reverse c.unbind-in-Free.ensures.todo))
    (subst (λ (rs : List ℕ). IsNext trees trees (c.args.task ∷ todo) todo results rs m.names n.names n.made m.levels n.levels) (sym (ap reverse c.unbind-in-Free.ensures.results))
    (leave-step trees c.args.task c.in-Free.level None todo results m.names n.names m.made n.made m.levels n.levels c.in-Free.is c.requires outer c.unbind-in-Free.ensures.constants c.unbind-in-Free.ensures.next c.unbind-in-Free.ensures.total made
    (λ k e. absurd (cc)))))
    c.unbind-in-Free.ensures.outer c.unbind-in-Free.ensures.made
