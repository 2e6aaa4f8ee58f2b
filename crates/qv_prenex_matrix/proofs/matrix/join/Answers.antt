use Rattle.std.proofs.Common.{ℕ, List, map, reverse, ◌∷◌, sym, subst}
use Rattle.qv_prenex_matrix.specs.declared.matrix.Task.TheVariants.{Join}
use Rattle.qv_prenex_matrix.specs.Matrix.{task_in, IsNext}
use Rattle.qv_prenex_splits.specs.Naming.{outer_of}
use Rattle.qv_prenex_matrix.proofs.MatrixSteps.{fit-join, join-step, pushed}
use Rattle.qv_prenex_matrix.proofs.matrix.join.Goals as goal

pub join_last-requires-clause-junction : goal.join_last-requires-clause-junction
join_last-requires-clause-junction c =
    (fit-join c.args.op (map (task_in c.args.store.now) (reverse c.args.machine.now.todo.items)) (outer_of c.args.store.now c.args.machine.now.names.outer) c.requires.fit).0

pub returns-clause-next : goal.returns-clause-next
returns-clause-next c =
    let m = c.args.machine.now in
    subst (λ (rs : List ℕ). IsNext c.args.store.now c.join_last.new.store (Join c.args.op ∷ reverse m.todo.items) (reverse m.todo.items) (reverse m.results.items) rs m.names m.names m.made m.levels m.levels)
    (sym (pushed c.join_last.new.results.items c.push.new.self.items c.in_ok-joined.joined c.in_ok-push.ensures.items))
    (join-step c.args.store.now c.join_last.new.store c.args.op (reverse m.todo.items) (reverse m.results.items) (reverse c.join_last.new.results.items) m.names m.made m.levels c.in_ok-joined.joined
    c.join_last.ensures.grows c.in_ok-joined.ensures.shared c.requires c.in_ok-joined.ensures.joined)
