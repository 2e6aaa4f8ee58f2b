use Rattle.std.proofs.Common.{◌≡◌, ◌<◌, ◌≤◌, ◌+◌, ◌++◌, ◌∷◌, [], ℕ, List, Some, length, reverse, slice_get, get_or, sym, ap, subst, ◌∙◌, arith}
use Rattle.std.proofs.lemmas.Option.{slice_get-get_or}
use Rattle.std.proofs.lemmas.Result.{IfOk-weaker}
use Rattle.qv_sexpr.specs.declared.items.Item.{Item}
use Rattle.qv_sexpr.specs.Copying.{EndsBefore}
use Rattle.qv_elab_frames.specs.declared.elaborator.Next.{Next}
use Rattle.qv_elab_frames.specs.declared.elaborator.Next.TheVariants.{Read, Made}
use Rattle.qv_elab_frames.specs.declared.elaborator.Open.TheVariants as opened
use Rattle.qv_elab_items.specs.Flat.{name_in}
use Rattle.qv_elab_frames.specs.Loop.{source, state_of, steps_left}
use Rattle.qv_elab_frames.proofs.Departing.{pushed}
use Rattle.qv_elab_frames.proofs.Letting.{let-within, no-more, one-more-pair, let-has, let-name, next-state, body-ends, last-state}
use Rattle.qv_elab_scope.proofs.BoundVariables.{is-named, given-is}
use Rattle.qv_elab_frames.proofs.elaborator.Elaborator.leave_pair.Goals as goal

-- the item that is read
item-at : (its : List Item) (at : ℕ) (x : Item) → at < length its → x ≡ get_or its at x → slice_get its at ≡ Some x
item-at its at x lt e = slice_get-get_or its at x lt ∙ ap Some (sym e)

pub unwrap-name-requires : goal.unwrap-name-requires
unwrap-name-requires c =
    let q = c.requires in
    let a = c.args in
    let has = let-has (source a.expr.now q.1 q.0) a.store.now (state_of a.self.now) a.name_at a.start a.id a.at q.2 q.3.1 c.index.result.now c.index.ensures in
    is-named c.name_in.result _ (c.name_in.ensures ∙ ap (λ t. name_in t c.index.result.now) c.deref.ensures.value ∙ has)

pub enter_pair-requires : goal.enter_pair-requires
enter_pair-requires c =
    let q = c.requires in
    let a = c.args in
    let s = a.self.now in
    let w = source a.expr.now q.1 q.0 in
    let h = q.3.1 in
    let in_range = let-within w a.store.now (state_of s) a.name_at a.start a.id a.at q.2 h in
    let there = item-at a.expr.now.items.items (a.at + 1) c.index-2.result.now (omega (arith, in_range.0, in_range.1)) c.index-2.ensures in
    let more = one-more-pair w a.store.now (state_of s) a.name_at a.start a.id a.at q.2 h c.index-2.result.now there c.in_default.not-Close in
    let name = let-name w a.store.now (state_of s) a.name_at a.start a.id a.at q.2 h c.index.result.now c.index.ensures c.unwrap-name.result.now (given-is c.name_in.result c.unwrap-name.result (name_in a.expr.now.text.items c.index.result.now) c.unwrap-name.ensures (c.name_in.ensures ∙ ap (λ t. name_in t c.index.result.now) c.deref.ensures.value)) in
    (a.store.now, (q.0, q.1, q.2, next-state w a.store.now (state_of s) a.name_at a.start a.id a.at q.2 h more.0 more.1 more.2 c.unwrap-name.result.now name c.push.new.self c.in_ok-push.ensures.ok))

pub returns-in_default-clause-next : goal.returns-in_default-clause-next
returns-in_default-clause-next c = λ defs end given i h.
    let a = c.args in
    let s = a.self.now in
    let w = source a.expr.now end defs in
    let in_range = let-within w a.store.now (state_of s) a.name_at a.start a.id a.at given h in
    let there = item-at a.expr.now.items.items (a.at + 1) c.index-2.result.now (omega (arith, in_range.0, in_range.1)) c.index-2.ensures in
    let more = one-more-pair w a.store.now (state_of s) a.name_at a.start a.id a.at given h c.index-2.result.now there c.in_default.not-Close in
    let name = let-name w a.store.now (state_of s) a.name_at a.start a.id a.at given h c.index.result.now c.index.ensures c.unwrap-name.result.now (given-is c.name_in.result c.unwrap-name.result (name_in a.expr.now.text.items c.index.result.now) c.unwrap-name.ensures (c.name_in.ensures ∙ ap (λ t. name_in t c.index.result.now) c.deref.ensures.value)) in
    c.enter_pair.ensures.next a.store.now defs end given (next-state w a.store.now (state_of s) a.name_at a.start a.id a.at given h more.0 more.1 more.2 c.unwrap-name.result.now name c.push.new.self c.in_ok-push.ensures.ok)

pub returns-in_default-clause-fewer : goal.returns-in_default-clause-fewer
returns-in_default-clause-fewer c =
    IfOk-weaker c.enter_pair.result (λ (n : Next). steps_left c.args.expr.now n < steps_left c.args.expr.now (Read (c.args.at + 1 + 1))) (λ (n : Next). steps_left c.args.expr.now n < steps_left c.args.expr.now (Made c.args.id c.args.at)) (λ n k. omega arith) c.enter_pair.ensures.onward

pub overflow_add-next-2 : goal.overflow_add-next-2
overflow_add-next-2 c =
    let q = c.requires in
    let r = let-within (source c.args.expr.now q.1 q.0) c.args.store.now (state_of c.args.self.now) c.args.name_at c.args.start c.args.id c.args.at q.2 q.3.1 in
    omega (arith, r.0, r.1, c.args.expr.now.items.small, c.args.expr.now.items.ok.0, c.args.expr.now.items.ok.1)

pub overflow_add-result : goal.overflow_add-result
overflow_add-result c =
    let q = c.requires in
    let r = let-within (source c.args.expr.now q.1 q.0) c.args.store.now (state_of c.args.self.now) c.args.name_at c.args.start c.args.id c.args.at q.2 q.3.1 in
    omega (arith, r.0, r.1, c.args.expr.now.items.small, c.args.expr.now.items.ok.0, c.args.expr.now.items.ok.1)

pub behind-close-requires : goal.behind-close-requires
behind-close-requires c =
    let q = c.requires in
    let a = c.args in
    let w = source a.expr.now q.1 q.0 in
    let r = let-within w a.store.now (state_of a.self.now) a.name_at a.start a.id a.at q.2 q.3.1 in
    let there = item-at a.expr.now.items.items (a.at + 1) c.index-2.result.now (omega (arith, r.0, r.1)) c.index-2.ensures in
    let none = no-more w a.store.now (state_of a.self.now) a.name_at a.start a.id a.at q.2 q.3.1 c.index-2.result.now there c.in-Close.is in
    let ends = body-ends w a.store.now (state_of a.self.now) a.name_at a.start a.id a.at q.2 q.3.1 none.1 in
    subst (λ (its : List Item). (to : ℕ) × (to ≤ length its) × (a.at + 1 + 1 < to) × EndsBefore its (a.at + 1 + 1) to) (sym c.deref-2.ensures.value) (_, ends.0, omega (arith, r.3, none.1), ends.1)

pub returns-clause-next : goal.returns-clause-next
returns-clause-next c = λ defs end given i h.
    let a = c.args in
    let s = a.self.now in
    let w = source a.expr.now end defs in
    let r = let-within w a.store.now (state_of s) a.name_at a.start a.id a.at given h in
    let there = item-at a.expr.now.items.items (a.at + 1) c.index-2.result.now (omega (arith, r.0, r.1)) c.index-2.ensures in
    let none = no-more w a.store.now (state_of s) a.name_at a.start a.id a.at given h c.index-2.result.now there c.in-Close.is in
    let name = let-name w a.store.now (state_of s) a.name_at a.start a.id a.at given h c.index.result.now c.index.ensures c.unwrap-name.result.now (given-is c.name_in.result c.unwrap-name.result (name_in a.expr.now.text.items c.index.result.now) c.unwrap-name.ensures (c.name_in.ensures ∙ ap (λ t. name_in t c.index.result.now) c.deref.ensures.value)) in
    let ends = subst (λ (its : List Item). EndsBefore its (a.at + 1 + 1) c.behind-close.result) c.deref-2.ensures.value c.behind-close.ensures in
    let op = opened.Passing c.behind-close.result c.len-bound.result in
    let stack = pushed s.open.items c.push_reserved.new.self.items op (c.push_reserved.ensures.items ∙ ap (λ os. os ++ op ∷ []) c.reserve.ensures.items) in
    last-state w a.store.now (state_of s) a.name_at a.start a.id a.at given h none c.unwrap-name.result.now name (reverse c.push_reserved.new.self.items) c.push_from.new.self c.push.new.self c.truncate.new.self c.behind-close.result c.len-bound.result c.in_ok-push.ensures.ok ends c.len-bound.ensures stack c.in_ok-push_from.ensures c.truncate.ensures
