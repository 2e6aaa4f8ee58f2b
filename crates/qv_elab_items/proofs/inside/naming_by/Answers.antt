use Rattle.std.proofs.Common.{◌<◌, Some, None, arith}
use Rattle.qv_elab_items.proofs.Attributed.{front-none, front-some}
use Rattle.qv_elab_items.proofs.inside.naming_by.Goals as goal

pub returns-then-to-at : goal.returns-then-to-at
returns-then-to-at c = λ es h. front-none c.args.items.now c.args.text.now c.args.at c.args.to c.if-to-at.true es h

pub returns-in-Some : goal.returns-in-Some
returns-in-Some c = λ es h.
    let a = c.args in
    let lt : a.at < a.to = omega arith in
    front-some a.items.now a.text.now a.at a.to lt (Some c.in-Some.field-0.now) c.in-Some.ensures es h

pub returns-in-None : goal.returns-in-None
returns-in-None c = λ es h.
    let a = c.args in
    let lt : a.at < a.to = omega arith in
    front-some a.items.now a.text.now a.at a.to lt None c.in-None.ensures es h
