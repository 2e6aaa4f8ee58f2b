use Rattle.std.proofs.Common.{◌≡◌, ◌<◌, ◌+◌, ℕ, List, Some, length, slice_get, get_or, sym, ap, subst, ◌∙◌, arith}
use Rattle.std.proofs.lemmas.Option.{slice_get-get_or}
use Rattle.std.proofs.lemmas.Result.{err_from_is_err_and}
use Rattle.qv_text.specs.Grammar.{IsWhole}
use Rattle.qv_sexpr.specs.declared.items.Item.{Item}
use Rattle.qv_elab_items.specs.Flat.{text_in}
use Rattle.qv_elab_defs.specs.Leaves.{token_tree}
use Rattle.qv_elab_defs.specs.Answers.{Answers}
use Rattle.qv_elab_defs.specs.Beginnings.{Begins, beginning}
use Rattle.qv_elab_defs.proofs.Beginning.{begins-out, begins-ok}
use Rattle.qv_elab_frames.specs.Loop.{source, state_of}
use Rattle.qv_elab_frames.proofs.Departing.{out}
use Rattle.qv_elab.proofs.Arriving.{at-atom, atom-begins, no-close, reading-within, read-token, made-next}
use Rattle.qv_elab_scope.proofs.BoundVariables.{is-named, name-given}
use Rattle.qv_elab.proofs.entering.enter.Goals as goal

-- the item that is read
item-at : (its : List Item) (at : ℕ) (x : Item) → at < length its → x ≡ get_or its at x → slice_get its at ≡ Some x
item-at its at x lt e = slice_get-get_or its at x lt ∙ ap Some (sym e)

pub unwrap-text-requires : goal.unwrap-text-requires
unwrap-text-requires c =
    let x = c.requires.reading in
    let w = source c.args.expr.now x.1 x.0 in
    let h = x.3.1 in
    let lt = reading-within w c.args.store.now (state_of c.args.elaborator.now) c.args.at x.2 h in
    let there = item-at c.args.expr.now.items.items c.args.at c.index-item.result.now lt c.index-item.ensures in
    let i = at-atom w c.args.at h.behind h.expr c.index-item.result.now c.in-Atom.kind h.stands there c.in-Atom.is in
    is-named c.text_of.result i.text (c.text_of.ensures ∙ ap (λ t. text_in t c.index-item.result.now) c.deref.ensures.value ∙ i.text_is)

pub unreachable-requires : goal.unreachable-requires
unreachable-requires c =
    let x = c.requires.reading in
    let w = source c.args.expr.now x.1 x.0 in
    let h = x.3.1 in
    let lt = reading-within w c.args.store.now (state_of c.args.elaborator.now) c.args.at x.2 h in
    let there = item-at c.args.expr.now.items.items c.args.at c.index-item.result.now lt c.index-item.ensures in
    no-close w c.args.at h.behind h.expr c.index-item.result.now h.stands there c.in-Close.is

pub leaf-requires-clause-token : goal.leaf-requires-clause-token
leaf-requires-clause-token c =
    let x = c.requires.reading in
    let w = source c.args.expr.now x.1 x.0 in
    let h = x.3.1 in
    let lt = reading-within w c.args.store.now (state_of c.args.elaborator.now) c.args.at x.2 h in
    let i = at-atom w c.args.at h.behind h.expr c.index-item.result.now c.in-Atom.kind h.stands (item-at c.args.expr.now.items.items c.args.at c.index-item.result.now lt c.index-item.ensures) c.in-Atom.is in
    let bytes = name-given c.text_of.result c.unwrap-text.result i.text c.unwrap-text.ensures (c.text_of.ensures ∙ ap (λ t. text_in t c.index-item.result.now) c.deref.ensures.value ∙ i.text_is) in
    subst (λ (t : List ℕ). IsWhole c.in-Atom.kind t) (sym bytes) i.whole

pub returns-in_err-id-in-Atom-clause-next : goal.returns-in_err-id-in-Atom-clause-next
returns-in_err-id-in-Atom-clause-next c = λ defs end given s h.
    let w = source c.args.expr.now end defs in
    let st = state_of c.args.elaborator.now in
    let lt = reading-within w c.args.store.now st c.args.at given h in
    let i = at-atom w c.args.at h.behind h.expr c.index-item.result.now c.in-Atom.kind h.stands (item-at c.args.expr.now.items.items c.args.at c.index-item.result.now lt c.index-item.ensures) c.in-Atom.is in
    let bytes = name-given c.text_of.result c.unwrap-text.result i.text c.unwrap-text.ensures (c.text_of.ensures ∙ ap (λ t. text_in t c.index-item.result.now) c.deref.ensures.value ∙ i.text_is) in
    let answer = c.leaf.ensures.answers defs h.c s h.around.scope_is (sym h.around.binders_are) h.around.bound_are in
    let answer' = subst (λ (t : List ℕ). Answers c.leaf.new.store (token_tree c.in-Atom.kind c.index-item.result.now.place t h.c) c.leaf.result) bytes answer in
    let made = read-token w c.args.store.now c.leaf.new.store c.args.scope.now st c.args.at given h c.index-item.result.now c.in-Atom.kind i s c.leaf.ensures.grows c.leaf.result answer' in
    let q = err_from_is_err_and c.from_residual.result c.from_residual.ensures.1 in
    out w c.leaf.new.store st _ (c.args.at + 1) given c.leaf.result c.in_err-id-in-Atom.field-0.0 q.0 c.from_residual.result made c.in_err-id-in-Atom.was q.1 q.2

pub overflow_add-result : goal.overflow_add-result
overflow_add-result c =
    let x = c.requires.reading in
    let lt = reading-within (source c.args.expr.now x.1 x.0) c.args.store.now (state_of c.args.elaborator.now) c.args.at x.2 x.3.1 in
    omega (arith, lt, c.args.expr.now.items.small, c.args.expr.now.items.ok.0, c.args.expr.now.items.ok.1)

pub returns-in_ok-id-in-Atom-clause-next : goal.returns-in_ok-id-in-Atom-clause-next
returns-in_ok-id-in-Atom-clause-next c = λ defs end given s h.
    let w = source c.args.expr.now end defs in
    let st = state_of c.args.elaborator.now in
    let lt = reading-within w c.args.store.now st c.args.at given h in
    let i = at-atom w c.args.at h.behind h.expr c.index-item.result.now c.in-Atom.kind h.stands (item-at c.args.expr.now.items.items c.args.at c.index-item.result.now lt c.index-item.ensures) c.in-Atom.is in
    let bytes = name-given c.text_of.result c.unwrap-text.result i.text c.unwrap-text.ensures (c.text_of.ensures ∙ ap (λ t. text_in t c.index-item.result.now) c.deref.ensures.value ∙ i.text_is) in
    let answer = c.leaf.ensures.answers defs h.c s h.around.scope_is (sym h.around.binders_are) h.around.bound_are in
    let answer' = subst (λ (t : List ℕ). Answers c.leaf.new.store (token_tree c.in-Atom.kind c.index-item.result.now.place t h.c) c.leaf.result) bytes answer in
    let made = read-token w c.args.store.now c.leaf.new.store c.args.scope.now st c.args.at given h c.index-item.result.now c.in-Atom.kind i s c.leaf.ensures.grows c.leaf.result answer' in
    made-next w c.leaf.new.store st (c.args.at + 1) given c.leaf.result c.in_ok-id-in-Atom.id made c.in_ok-id-in-Atom.was

pub returns-in_ok-id-in-Atom-clause-fewer : goal.returns-in_ok-id-in-Atom-clause-fewer
returns-in_ok-id-in-Atom-clause-fewer c =
    let x = c.requires.reading in
    let lt = reading-within (source c.args.expr.now x.1 x.0) c.args.store.now (state_of c.args.elaborator.now) c.args.at x.2 x.3.1 in
    omega (arith, lt)

pub returns-in_err-id-in-Atom-clause-begins : goal.returns-in_err-id-in-Atom-clause-begins
returns-in_err-id-in-Atom-clause-begins c = λ defs end given s h.
    let w = source c.args.expr.now end defs in
    let st = state_of c.args.elaborator.now in
    let lt = reading-within w c.args.store.now st c.args.at given h in
    let i = at-atom w c.args.at h.behind h.expr c.index-item.result.now c.in-Atom.kind h.stands (item-at c.args.expr.now.items.items c.args.at c.index-item.result.now lt c.index-item.ensures) c.in-Atom.is in
    let bytes = name-given c.text_of.result c.unwrap-text.result i.text c.unwrap-text.ensures (c.text_of.ensures ∙ ap (λ t. text_in t c.index-item.result.now) c.deref.ensures.value ∙ i.text_is) in
    let begins = c.leaf.ensures.begins defs h.c s h.around.scope_is (sym h.around.binders_are) h.around.bound_are in
    let begins' = subst (λ (t : List ℕ). Begins (token_tree c.in-Atom.kind c.index-item.result.now.place t h.c) c.leaf.result) bytes begins in
    let all = atom-begins w c.args.at h.behind h.expr c.index-item.result.now c.in-Atom.kind i h.c c.leaf.result begins' in
    let q = err_from_is_err_and c.from_residual.result c.from_residual.ensures.1 in
    begins-out (beginning h.expr h.c) c.leaf.result c.in_err-id-in-Atom.field-0.0 q.0 c.from_residual.result all c.in_err-id-in-Atom.was q.1 q.2

pub returns-in_ok-id-in-Atom-clause-begins : goal.returns-in_ok-id-in-Atom-clause-begins
returns-in_ok-id-in-Atom-clause-begins c = λ defs end given s h.
    let w = source c.args.expr.now end defs in
    let st = state_of c.args.elaborator.now in
    let lt = reading-within w c.args.store.now st c.args.at given h in
    let i = at-atom w c.args.at h.behind h.expr c.index-item.result.now c.in-Atom.kind h.stands (item-at c.args.expr.now.items.items c.args.at c.index-item.result.now lt c.index-item.ensures) c.in-Atom.is in
    let bytes = name-given c.text_of.result c.unwrap-text.result i.text c.unwrap-text.ensures (c.text_of.ensures ∙ ap (λ t. text_in t c.index-item.result.now) c.deref.ensures.value ∙ i.text_is) in
    let begins = c.leaf.ensures.begins defs h.c s h.around.scope_is (sym h.around.binders_are) h.around.bound_are in
    let begins' = subst (λ (t : List ℕ). Begins (token_tree c.in-Atom.kind c.index-item.result.now.place t h.c) c.leaf.result) bytes begins in
    let all = atom-begins w c.args.at h.behind h.expr c.index-item.result.now c.in-Atom.kind i h.c c.leaf.result begins' in
    begins-ok (beginning h.expr h.c) c.leaf.result c.in_ok-id-in-Atom.id c.in_ok-id-in-Atom.was all
