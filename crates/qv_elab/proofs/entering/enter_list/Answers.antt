use Rattle.std.proofs.Common.{◌≡◌, ◌<◌, ◌+◌, ℕ, List, Some, length, slice_get, get_or, sym, ap, ◌∙◌, arith}
use Rattle.std.proofs.lemmas.Option.{slice_get-get_or}
use Rattle.qv_sexpr.specs.declared.items.Item.{Item}
use Rattle.qv_elab_items.specs.Flat.{construct_in}
use Rattle.qv_elab_items.specs.Listed.{meant}
use Rattle.qv_elab_frames.specs.Loop.{source, state_of}
use Rattle.qv_elab.proofs.Arriving.{at-list, empty-list, in-list, in-list-at, list-begins, list-next, is-open}
use Rattle.qv_elab.proofs.entering.enter_list.Goals as goal

-- the item that is read
item-at : (its : List Item) (at : ℕ) (x : Item) → at < length its → x ≡ get_or its at x → slice_get its at ≡ Some x
item-at its at x lt e = slice_get-get_or its at x lt ∙ ap Some (sym e)

pub returns-then-at-close-clause-next : goal.returns-then-at-close-clause-next
returns-then-at-close-clause-next c = λ defs end given s h.
    let w = source c.args.expr.now end defs in
    let x = is-open w c.args.at c.args.close c.index.result.now c.requires.list c.index.ensures in
    empty-list w c.args.store.now (state_of c.args.elaborator.now) c.args.at c.args.close given h c.index.result.now (at-list w c.args.at h.behind c.args.close h.expr c.index.result.now h.stands x.0 x.1) c.if-at-close.true

pub overflow_add-at-2 : goal.overflow_add-at-2
overflow_add-at-2 c =
    let x = c.requires.reading in
    let w = source c.args.expr.now x.1 x.0 in
    let o = is-open w c.args.at c.args.close c.index.result.now c.requires.list c.index.ensures in
    let l = at-list w c.args.at x.3.1.behind c.args.close x.3.1.expr c.index.result.now x.3.1.stands o.0 o.1 in
    let n = list-next w c.args.at x.3.1.behind c.args.close x.3.1.expr c.index.result.now l in
    omega (arith, n.0, n.1, c.args.expr.now.items.small, c.args.expr.now.items.ok.0, c.args.expr.now.items.ok.1)

pub index-requires-2 : goal.index-requires-2
index-requires-2 c =
    let x = c.requires.reading in
    let w = source c.args.expr.now x.1 x.0 in
    let o = is-open w c.args.at c.args.close c.index.result.now c.requires.list c.index.ensures in
    let l = at-list w c.args.at x.3.1.behind c.args.close x.3.1.expr c.index.result.now x.3.1.stands o.0 o.1 in
    let n = list-next w c.args.at x.3.1.behind c.args.close x.3.1.expr c.index.result.now l in
    omega (arith, n.0, n.1, c.args.expr.now.items.ok.0)

pub enter_shape-requires-clause-list : goal.enter_shape-requires-clause-list
enter_shape-requires-clause-list c =
    let x = c.requires.reading in
    let w = source c.args.expr.now x.1 x.0 in
    let h = x.3.1 in
    let o = is-open w c.args.at c.args.close c.index.result.now c.requires.list c.index.ensures in
    let l = at-list w c.args.at h.behind c.args.close h.expr c.index.result.now h.stands o.0 o.1 in
    let n = list-next w c.args.at h.behind c.args.close h.expr c.index.result.now l in
    let lt : c.args.at + 1 < length c.args.expr.now.items.items = omega (arith, n.0, n.1, c.if-at-close.false) in
    let there = item-at c.args.expr.now.items.items (c.args.at + 1) c.index-2.result.now lt c.index-2.ensures in
    let shape = c.shape_of-shape.ensures ∙ ap (λ t. construct_in t c.index-2.result.now) c.deref.ensures.value in
    (x.0, x.1, x.2, (x.3.0, in-list w c.args.store.now (state_of c.args.elaborator.now) c.args.at c.args.close x.2 h c.index.result.now c.index-2.result.now l (meant c.shape_of-shape.result) c.if-at-close.false there shape))

pub returns-clause-next : goal.returns-clause-next
returns-clause-next c = λ defs end given s h.
    let w = source c.args.expr.now end defs in
    let o = is-open w c.args.at c.args.close c.index.result.now c.requires.list c.index.ensures in
    let l = at-list w c.args.at h.behind c.args.close h.expr c.index.result.now h.stands o.0 o.1 in
    let n = list-next w c.args.at h.behind c.args.close h.expr c.index.result.now l in
    let lt : c.args.at + 1 < length c.args.expr.now.items.items = omega (arith, n.0, n.1, c.if-at-close.false) in
    let there = item-at c.args.expr.now.items.items (c.args.at + 1) c.index-2.result.now lt c.index-2.ensures in
    let shape = c.shape_of-shape.ensures ∙ ap (λ t. construct_in t c.index-2.result.now) c.deref.ensures.value in
    c.enter_shape.ensures.next defs end given s
    (in-list w c.args.store.now (state_of c.args.elaborator.now) c.args.at c.args.close given h c.index.result.now c.index-2.result.now l (meant c.shape_of-shape.result) c.if-at-close.false there shape)

pub returns-clause-begins : goal.returns-clause-begins
returns-clause-begins c = λ defs end given s h.
    let w = source c.args.expr.now end defs in
    let st = state_of c.args.elaborator.now in
    let o = is-open w c.args.at c.args.close c.index.result.now c.requires.list c.index.ensures in
    let l = at-list w c.args.at h.behind c.args.close h.expr c.index.result.now h.stands o.0 o.1 in
    let n = list-next w c.args.at h.behind c.args.close h.expr c.index.result.now l in
    let lt : c.args.at + 1 < length c.args.expr.now.items.items = omega (arith, n.0, n.1, c.if-at-close.false) in
    let there = item-at c.args.expr.now.items.items (c.args.at + 1) c.index-2.result.now lt c.index-2.ensures in
    let shape = c.shape_of-shape.ensures ∙ ap (λ t. construct_in t c.index-2.result.now) c.deref.ensures.value in
    list-begins w c.args.store.now st c.args.at c.args.close given h c.index.result.now c.index-2.result.now l (meant c.shape_of-shape.result) c.if-at-close.false there shape c.enter_shape.result
    (c.enter_shape.ensures.begins defs end given s
    (in-list-at w c.args.store.now st c.args.at c.args.close given h c.index.result.now c.index-2.result.now l (meant c.shape_of-shape.result) c.if-at-close.false there shape).0)
