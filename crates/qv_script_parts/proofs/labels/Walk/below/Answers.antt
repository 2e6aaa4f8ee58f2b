use Rattle.std.proofs.Common.{List, reverse, refl, sym, subst}
use Rattle.qv_script_parts.specs.declared.labels.Task.{Task}
use Rattle.qv_script_parts.specs.Walking.{IsOpen}
use Rattle.qv_script_parts.proofs.Walks.{below-pairs, below-bound}
use Rattle.qv_script_parts.proofs.labels.Walk.below.Goals as goal

pub bind_pairs-requires : goal.bind_pairs-requires
bind_pairs-requires c =
    let a = c.args in
    let x = c.requires.walk in
    below-pairs a.expr.now a.list a.from a.to a.around (reverse a.self.now.todo.items) a.self.now.bound a.self.now.found.items x.0 x.1

pub returns-clause-next : goal.returns-clause-next
returns-clause-next c = λ given h.
    let a = c.args in
    let w = a.self.now in
    subst (λ (us : List Task). IsOpen a.expr.now us c.bind_pairs.new.bound w.found.items given) (sym c.in_ok-leave.ensures)
    (below-bound a.expr.now a.list a.from a.to a.around (reverse w.todo.items) w.bound w.found.items given c.truncate.new.self c.bind_pairs.new.bound (record { bound = c.len.result; outside = a.around.outside; place = a.around.place }) c.truncate.ensures c.in_ok-bind_pairs.ensures c.len.ensures refl refl h)
