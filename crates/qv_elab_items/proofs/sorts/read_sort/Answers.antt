use Rattle.std.proofs.Common.{◌+◌, length, sym, ap, ◌∙◌, arith}
use Rattle.std.specs.List.{slice_range}
use Rattle.qv_sexpr.specs.Script.{Tree as Expr}
use Rattle.qv_sexpr.proofs.Copies.{begun}
use Rattle.qv_elab_defs.specs.Answers.{answered}
use Rattle.qv_elab_defs.specs.Sorts.{sort_named, read_sort}
use Rattle.qv_elab_items.specs.Flat.{name_in, sort_in}
use Rattle.qv_elab_items.proofs.Slices.{read-item, list-item, sort-stands, atom-sort}
use Rattle.qv_elab_items.proofs.sorts.read_sort.Goals as goal

pub part-inside-requires-clause-order : goal.part-inside-requires-clause-order
part-inside-requires-clause-order c =
    let its = c.args.expr.now.items.items in
    let there = begun c.args.expr.now c.args.at c.requires.expr c.requires.at in
    let item = read-item its c.args.at c.requires.at.0 c.index-item.result.now c.requires.at.1 c.index-item.ensures in
    let parts = list-item its c.args.expr.now.text.items c.args.at there.0 there.1 c.index-item.result.now c.in-Open.close there.2 item c.in-Open.is in
    parts.4

pub part-inside-requires-clause-within : goal.part-inside-requires-clause-within
part-inside-requires-clause-within c =
    let its = c.args.expr.now.items.items in
    let there = begun c.args.expr.now c.args.at c.requires.expr c.requires.at in
    let item = read-item its c.args.at c.requires.at.0 c.index-item.result.now c.requires.at.1 c.index-item.ensures in
    let parts = list-item its c.args.expr.now.text.items c.args.at there.0 there.1 c.index-item.result.now c.in-Open.close there.2 item c.in-Open.is in
    let same = ap length c.deref.ensures.value in
    omega (arith, parts.5, same)

pub returns-in-Open : goal.returns-in-Open
returns-in-Open c = λ e to stands.
    let its = c.args.expr.now.items.items in
    let text = c.args.expr.now.text.items in
    let item = read-item its c.args.at c.requires.at.0 c.index-item.result.now c.requires.at.1 c.index-item.ensures in
    let parts = list-item its text c.args.at e to c.index-item.result.now c.in-Open.close stands item c.in-Open.is in
    c.listed_sort.ensures
    ∙ ap (λ t. answered (sort_in c.index-item.result.now.place t c.part-inside.result.now)) c.as_slice-text.ensures.value
    ∙ ap (λ xs. answered (sort_in c.index-item.result.now.place text xs)) (c.part-inside.ensures ∙ ap (λ xs. slice_range xs (c.args.at + 1) c.in-Open.close) c.deref.ensures.value)
    ∙ ap answered (sort-stands its text (c.args.at + 1) parts.0 c.in-Open.close c.index-item.result.now.place parts.1 parts.3)
    ∙ ap (λ (t : Expr). answered (read_sort t)) (sym parts.2)

pub returns-in_default : goal.returns-in_default
returns-in_default c = λ e to stands.
    let its = c.args.expr.now.items.items in
    let text = c.args.expr.now.text.items in
    let item = read-item its c.args.at c.requires.at.0 c.index-item.result.now c.requires.at.1 c.index-item.ensures in
    c.named_sort.ensures
    ∙ ap (λ o. answered (sort_named c.index-item.result.now.place o)) (c.name_in.ensures ∙ ap (λ t. name_in t c.index-item.result.now) c.as_slice-text.ensures.value)
    ∙ ap answered (atom-sort its text c.args.at e to c.index-item.result.now stands item c.in_default.not-Open)
