use Rattle.std.proofs.Common.{◌<◌, ◌+◌, length, sym, subst, ◌∙◌, arith}
use Rattle.qv_sexpr.specs.Copying.{EndsBefore}
use Rattle.qv_elab_items.proofs.Within.{read-at, here, list-then, no-list, list-within, no-body, body-before, other-end, no-pairs, is-bound}
use Rattle.qv_elab_items.proofs.inside.binding.Goals as goal

pub overflow_add-end : goal.overflow_add-end
overflow_add-end c =
    let a = c.args in
    let q = c.requires in
    let in_range : a.at < length a.items.now = omega arith in
    let t = list-then a.items.now a.text.now a.at a.close q.closed.0 q.closed.1 (read-at a.items.now a.at) (here a.items.now a.at in_range) c.in-Open.end c.in-Open.is q.stand.0 q.stand.1 in
    let w = list-within a.items.now a.text.now a.at c.in-Open.end a.close q.stand.0 t in
    omega (arith, w.1)

pub returns-in_default : goal.returns-in_default
returns-in_default c = λ rest h.
    let a = c.args in
    let q = c.requires in
    let in_range : a.at < length a.items.now = omega arith in
    no-list a.items.now a.text.now a.at a.close q.closed.0 q.closed.1 (read-at a.items.now a.at) (here a.items.now a.at in_range) c.in_default.not-Open rest h

pub returns-then-close-end : goal.returns-then-close-end
returns-then-close-end c = λ rest h.
    let a = c.args in
    let q = c.requires in
    let in_range : a.at < length a.items.now = omega arith in
    let t = list-then a.items.now a.text.now a.at a.close q.closed.0 q.closed.1 (read-at a.items.now a.at) (here a.items.now a.at in_range) c.in-Open.end c.in-Open.is rest h in
    no-body a.items.now a.text.now a.at c.in-Open.end a.close rest t c.if-close-end.true

pub behind-requires : goal.behind-requires
behind-requires c =
    let a = c.args in
    let q = c.requires in
    let in_range : a.at < length a.items.now = omega arith in
    let t = list-then a.items.now a.text.now a.at a.close q.closed.0 q.closed.1 (read-at a.items.now a.at) (here a.items.now a.at in_range) c.in-Open.end c.in-Open.is q.stand.0 q.stand.1 in
    body-before a.items.now a.text.now a.at c.in-Open.end a.close q.stand.0 t (omega arith)

pub returns-then-behind-close : goal.returns-then-behind-close
returns-then-behind-close c = λ rest h.
    let a = c.args in
    let q = c.requires in
    let in_range : a.at < length a.items.now = omega arith in
    let t = list-then a.items.now a.text.now a.at a.close q.closed.0 q.closed.1 (read-at a.items.now a.at) (here a.items.now a.at in_range) c.in-Open.end c.in-Open.is rest h in
    other-end a.items.now a.text.now a.at c.in-Open.end a.close rest t c.behind.result c.behind.ensures c.if-behind-close.true

pub are_pairs-requires : goal.are_pairs-requires
are_pairs-requires c =
    let a = c.args in
    let q = c.requires in
    let in_range : a.at < length a.items.now = omega arith in
    let t = list-then a.items.now a.text.now a.at a.close q.closed.0 q.closed.1 (read-at a.items.now a.at) (here a.items.now a.at in_range) c.in-Open.end c.in-Open.is q.stand.0 q.stand.1 in
    (t.pairs, t.stand)

pub returns-then-are_pairs : goal.returns-then-are_pairs
returns-then-are_pairs c = λ rest h.
    let a = c.args in
    let q = c.requires in
    let in_range : a.at < length a.items.now = omega arith in
    let t = list-then a.items.now a.text.now a.at a.close q.closed.0 q.closed.1 (read-at a.items.now a.at) (here a.items.now a.at in_range) c.in-Open.end c.in-Open.is rest h in
    is-bound a.items.now a.text.now a.at c.in-Open.end a.close rest t (omega arith) (subst (λ n. EndsBefore a.items.now (c.in-Open.end + 1) n) c.if-behind-close.false c.behind.ensures) (sym c.if-are_pairs.true ∙ c.are_pairs.ensures t.pairs t.stand)

pub returns-else-are_pairs : goal.returns-else-are_pairs
returns-else-are_pairs c = λ rest h.
    let a = c.args in
    let q = c.requires in
    let in_range : a.at < length a.items.now = omega arith in
    let t = list-then a.items.now a.text.now a.at a.close q.closed.0 q.closed.1 (read-at a.items.now a.at) (here a.items.now a.at in_range) c.in-Open.end c.in-Open.is rest h in
    no-pairs a.items.now a.text.now a.at c.in-Open.end a.close rest t (sym c.if-are_pairs.false ∙ c.are_pairs.ensures t.pairs t.stand)
