use Rattle.std.proofs.Common.{◌<◌, ◌+◌, length, arith}
use Rattle.qv_elab_items.proofs.Within.{read-at, here, no-symbol, no-second, second-of, second-before, pair-tells}
use Rattle.qv_elab_items.proofs.inside.is_pair_within.Goals as goal

pub returns-in_default : goal.returns-in_default
returns-in_default c = λ inside h.
    let a = c.args in
    let in_range : a.at < length a.items.now = omega arith in
    no-symbol a.items.now a.text.now a.at a.close c.requires.closed.0 c.requires.closed.1 (read-at a.items.now a.at) (here a.items.now a.at in_range) c.in_default.ensures inside h

pub returns-then-close-at : goal.returns-then-close-at
returns-then-close-at c = λ inside h.
    let a = c.args in
    let in_range : a.at < length a.items.now = omega arith in
    no-second a.items.now a.text.now a.at a.close c.requires.closed.0 c.requires.closed.1 (read-at a.items.now a.at) (here a.items.now a.at in_range) c.if-close-at.true inside h

pub behind-requires : goal.behind-requires
behind-requires c =
    let a = c.args in
    let q = c.requires in
    let in_range : a.at < length a.items.now = omega arith in
    let lt : a.at + 1 < a.close = omega arith in
    let x = read-at a.items.now a.at in
    let there = here a.items.now a.at in_range in
    second-before a.items.now a.text.now a.at a.close q.closed.0 q.closed.1 x there c.in-Some.field-0.now q.stand.0
    (second-of a.items.now a.text.now a.at a.close q.closed.0 q.closed.1 x there c.in-Some.field-0.now c.in-Some.ensures lt q.stand.0 q.stand.1)

pub returns : goal.returns
returns c = λ inside h.
    let a = c.args in
    let q = c.requires in
    let in_range : a.at < length a.items.now = omega arith in
    let lt : a.at + 1 < a.close = omega arith in
    let x = read-at a.items.now a.at in
    let there = here a.items.now a.at in_range in
    pair-tells a.items.now a.text.now a.at a.close q.closed.0 q.closed.1 x there c.in-Some.field-0.now inside c.behind.result c.behind.ensures
    (second-of a.items.now a.text.now a.at a.close q.closed.0 q.closed.1 x there c.in-Some.field-0.now c.in-Some.ensures lt inside h)
