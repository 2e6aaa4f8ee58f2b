use Rattle.std.proofs.Common.{List, sym, ap, ◌∙◌}
use Rattle.std.specs.List.{slice_get}
use Rattle.qv_sexpr.specs.declared.items.Item.{Item}
use Rattle.qv_elab_items.specs.Flat.{name_in}
use Rattle.qv_elab_defs.specs.Scopes.{Definition}
use Rattle.qv_elab_items.proofs.Within.{item-at}
use Rattle.qv_elab_scope.proofs.Usable.{same-name, definition-there, args-levels, args-depths, use-answers}
use Rattle.qv_elab_scope.proofs.headed.use_named.Goals as goal

pub use_kept-requires-clause-levels : goal.use_kept-requires-clause-levels
use_kept-requires-clause-levels c =
    let a = c.args in
    let x = c.requires.applied in
    args-levels a.store.now a.scope.now a.expr.now a.binders a.head_at a.args.now x.0 x.1 x.2 x.3

pub use_kept-requires-clause-shallow : goal.use_kept-requires-clause-shallow
use_kept-requires-clause-shallow c =
    let a = c.args in
    let x = c.requires.applied in
    args-depths a.store.now a.scope.now a.expr.now a.binders a.head_at a.args.now x.0 x.1 x.2 x.3

pub use_kept-requires-clause-kept : goal.use_kept-requires-clause-kept
use_kept-requires-clause-kept c =
    let a = c.args in
    let x = c.requires.applied in
    let name = same-name a.store.now a.scope.now a.expr.now a.binders a.head_at a.args.now x.0 x.1 x.2 x.3 c.in-Some.item.now
    (sym (item-at c.deref.result.now a.head_at c.in-Some.item.now c.in-Some.ensures.lookup.3.0 c.in-Some.ensures.lookup.1) ∙ ap (λ (its : List Item). slice_get its a.head_at) c.deref.ensures.value) c.in-Some-name_in.name.now
    (c.in-Some-name_in.ensures ∙ ap (λ t. name_in t c.in-Some.item.now) c.deref-2.ensures.value) in
    let there = definition-there a.store.now a.scope.now a.expr.now a.binders a.head_at a.args.now x.0 x.1 x.2 x.3 c.in-Some-name_in.name.now name c.in-Some-find.kept.now c.in-Some-find.ensures in
    (there.0, Definition x.3.is_head.1 x.3.is_head.2, there.1, there.2)

pub returns-clause-answers : goal.returns-clause-answers
returns-clause-answers c = λ defs meant ts k.
    let a = c.args in
    let name = same-name a.store.now a.scope.now a.expr.now a.binders a.head_at a.args.now defs meant ts k c.in-Some.item.now
    (sym (item-at c.deref.result.now a.head_at c.in-Some.item.now c.in-Some.ensures.lookup.3.0 c.in-Some.ensures.lookup.1) ∙ ap (λ (its : List Item). slice_get its a.head_at) c.deref.ensures.value) c.in-Some-name_in.name.now
    (c.in-Some-name_in.ensures ∙ ap (λ t. name_in t c.in-Some.item.now) c.deref-2.ensures.value) in
    let there = definition-there a.store.now a.scope.now a.expr.now a.binders a.head_at a.args.now defs meant ts k c.in-Some-name_in.name.now name c.in-Some-find.kept.now c.in-Some-find.ensures in
    use-answers a.store.now a.scope.now a.expr.now a.binders a.head_at a.args.now defs meant ts k c.use_kept.new.store a.place c.use_kept.result (c.use_kept.ensures.answers there.0 k.is_head.1 k.is_head.2 there.1 there.2)
