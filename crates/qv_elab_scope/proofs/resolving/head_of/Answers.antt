use Rattle.std.proofs.Common.{◌≡◌, ◌+◌, Some, None, [], length, refl, sym, ap, subst, ◌∙◌, arith}
use Rattle.std.specs.Prelude.{Result, option_and_then}
use Rattle.std.specs.List.{slice_range}
use Rattle.qv_sexpr.specs.Script.{Tree as Expr}
use Rattle.qv_sexpr.proofs.Copies.{begun}
use Rattle.qv_elab_defs.specs.Faults.{Fault}
use Rattle.qv_elab_defs.specs.Heads.{Head, head_symbol, head_of}
use Rattle.qv_elab_items.specs.Flat.{name_in}
use Rattle.qv_elab_scope.specs.Headed.{IsTold, head_in, name_at}
use Rattle.qv_elab_items.proofs.Slices.{read-item, list-item}
use Rattle.qv_elab_scope.proofs.NamedHeads.{head-stands, atom-head}
use Rattle.qv_elab_scope.proofs.resolving.head_of.Goals as goal

pub part-inside-requires-clause-order : goal.part-inside-requires-clause-order
part-inside-requires-clause-order c =
    let its = c.args.expr.now.items.items in
    let there = begun c.args.expr.now c.args.at c.requires.expr c.requires.at in
    let item = read-item its c.args.at c.requires.at.0 c.index-item.result.now c.requires.at.1 c.index-item.ensures in
    let parts = list-item its c.args.expr.now.text.items c.args.at there.0 there.1 c.index-item.result.now c.in-Open.close there.2 item c.in-Open.is in
    parts.4

pub part-inside-requires-clause-within : goal.part-inside-requires-clause-within
part-inside-requires-clause-within c =
    let its = c.args.expr.now.items.items in
    let there = begun c.args.expr.now c.args.at c.requires.expr c.requires.at in
    let item = read-item its c.args.at c.requires.at.0 c.index-item.result.now c.requires.at.1 c.index-item.ensures in
    let parts = list-item its c.args.expr.now.text.items c.args.at there.0 there.1 c.index-item.result.now c.in-Open.close there.2 item c.in-Open.is in
    let same = ap length c.deref.ensures.value in
    omega (arith, parts.5, same)

pub returns-in-Open : goal.returns-in-Open
returns-in-Open c = λ trees defs e to s stands.
    let its = c.args.expr.now.items.items in
    let text = c.args.expr.now.text.items in
    let x = c.index-item.result.now in
    let at = name_at text its c.args.at in
    let item = read-item its c.args.at c.requires.at.0 x c.requires.at.1 c.index-item.ensures in
    let parts = list-item its text c.args.at e to x c.in-Open.close stands item c.in-Open.is in
    let whole = ap (λ t. head_in defs c.args.place x.place t c.part-inside.result.now) c.as_slice-text.ensures.value
    ∙ ap (λ xs. head_in defs c.args.place x.place text xs) (c.part-inside.ensures ∙ ap (λ xs. slice_range xs (c.args.at + 1) c.in-Open.close) c.deref.ensures.value)
    ∙ head-stands its text (c.args.at + 1) parts.0 c.in-Open.close defs c.args.place x.place parts.1 parts.3
    ∙ ap (λ (t : Expr). head_of defs c.args.place t) (sym parts.2) in
    subst (λ (r : Result Head Fault). IsTold defs at r c.listed_head.result) whole (c.listed_head.ensures trees defs at s)

pub returns-in-Some : goal.returns-in-Some
returns-in-Some c = λ trees defs e to s stands.
    let its = c.args.expr.now.items.items in
    let text = c.args.expr.now.text.items in
    let x = c.index-item.result.now in
    let at = name_at text its c.args.at in
    let item = read-item its c.args.at c.requires.at.0 x c.requires.at.1 c.index-item.ensures in
    let name : Some c.in-Some.name.now ≡ name_in text x = c.in-Some.ensures ∙ ap (λ t. name_in t x) c.as_slice-text.ensures.value in
    let whole = ap (head_symbol defs c.args.place x.place) name ∙ atom-head its text c.args.at e to x defs c.args.place stands item c.in_default.not-Open in
    subst (λ (r : Result Head Fault). IsTold defs at r c.named_head.result) whole
    (c.named_head.ensures trees defs [] at s refl (λ _. ap (option_and_then (name_in text)) item ∙ sym name))

pub returns-in-None : goal.returns-in-None
returns-in-None c = λ trees defs e to s stands.
    let its = c.args.expr.now.items.items in
    let text = c.args.expr.now.text.items in
    let x = c.index-item.result.now in
    let item = read-item its c.args.at c.requires.at.0 x c.requires.at.1 c.index-item.ensures in
    let name : None ≡ name_in text x = c.in-None.ensures ∙ ap (λ t. name_in t x) c.as_slice-text.ensures.value in
    sym (ap (head_symbol defs c.args.place x.place) name ∙ atom-head its text c.args.at e to x defs c.args.place stands item c.in_default.not-Open)
