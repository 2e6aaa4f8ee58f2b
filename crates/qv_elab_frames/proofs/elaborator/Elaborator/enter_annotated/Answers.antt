use Rattle.std.proofs.Common.{◌<◌, ◌≤◌, ◌+◌, ◌++◌, ◌∷◌, [], ℕ, List, length, reverse, refl, sym, ap, subst, ◌∙◌, arith}
use Rattle.qv_sexpr.specs.declared.items.Item.{Item}
use Rattle.qv_sexpr.specs.Copying.{EndsBefore}
use Rattle.qv_elab_frames.specs.declared.elaborator.Open.TheVariants as opened
use Rattle.qv_elab_defs.specs.Shapes.{Annotated}
use Rattle.qv_elab_frames.specs.Loop.{source, state_of, IsReading}
use Rattle.qv_elab_frames.proofs.Departing.{reading-at, pushed}
use Rattle.qv_elab_frames.proofs.Inside.{list-within, ends-first, is-second}
use Rattle.qv_elab_items.proofs.Attributed.{next-before, next-at}
use Rattle.qv_elab_defs.specs.Beginnings.{list_beginning}
use Rattle.qv_elab_defs.proofs.Beginning.{begins-anyhow}
use Rattle.qv_elab_frames.proofs.Begun.{annotated-begins}
use Rattle.qv_elab_frames.proofs.Annotating.{no-term, attributes-refused, misnamed-refused, annotated-into, right-told, term-stands, moved-back}
use Rattle.qv_elab_frames.proofs.elaborator.Elaborator.enter_annotated.Goals as goal

pub overflow_add-at : goal.overflow_add-at
overflow_add-at c =
    let x = c.requires.list in
    let a = c.args in
    let st = state_of a.self.now in
    let w = source a.expr.now x.1 x.0 in
    let h = x.3.1 in
    let given = x.2 in
    let r = list-within w a.store.now st a.at a.close a.place Annotated given h in
    omega (arith, r.0, r.1, r.2, a.expr.now.items.small, a.expr.now.items.ok.0, a.expr.now.items.ok.1)

pub behind-second-requires : goal.behind-second-requires
behind-second-requires c =
    let x = c.requires.list in
    let a = c.args in
    let st = state_of a.self.now in
    let w = source a.expr.now x.1 x.0 in
    let h = x.3.1 in
    let given = x.2 in
    let r = list-within w a.store.now st a.at a.close a.place Annotated given h in
    let e = ends-first w a.store.now st a.at a.close a.place Annotated given h in
    subst (λ (xs : List Item). (to : ℕ) × (to ≤ length xs) × (a.at + 1 < to) × EndsBefore xs (a.at + 1) to) (sym c.deref-items.ensures.value) (h.second, e.0, r.0, e.1)

pub returns-then-second-close-clause-next : goal.returns-then-second-close-clause-next
returns-then-second-close-clause-next c = λ defs end given s h.
    let a = c.args in
    let st = state_of a.self.now in
    let w = source a.expr.now end defs in
    let its = c.deref-items.result.now in
    let text = c.deref-text.result.now in
    let ends = subst (λ (xs : List Item). EndsBefore xs (a.at + 1) c.behind-second.result) c.deref-items.ensures.value c.behind-second.ensures in
    let is = is-second w a.store.now st a.at a.close a.place Annotated given h c.behind-second.result ends in
    no-term w a.store.now st a.at a.close a.place given h (sym is ∙ c.if-second-close.true)

pub behind-from-requires : goal.behind-from-requires
behind-from-requires c =
    let x = c.requires.list in
    let a = c.args in
    let st = state_of a.self.now in
    let w = source a.expr.now x.1 x.0 in
    let h = x.3.1 in
    let given = x.2 in
    let r = list-within w a.store.now st a.at a.close a.place Annotated given h in
    let its = c.deref-items.result.now in
    let text = c.deref-text.result.now in
    let ends = subst (λ (xs : List Item). EndsBefore xs (a.at + 1) c.behind-second.result) c.deref-items.ensures.value c.behind-second.ensures in
    let is = is-second w a.store.now st a.at a.close a.place Annotated given h c.behind-second.result ends in
    let lt : c.behind-second.result < a.close = omega (arith, r.1, is, c.if-second-close.false) in
    let stand = term-stands w a.store.now st a.at a.close a.place given h its text c.deref-items.ensures.value c.deref-text.ensures.value c.behind-second.result is in
    next-before its text c.behind-second.result a.close h.rest stand lt

pub are_attributes-requires-clause-stand : goal.are_attributes-requires-clause-stand
are_attributes-requires-clause-stand c =
    let x = c.requires.list in
    let a = c.args in
    let st = state_of a.self.now in
    let w = source a.expr.now x.1 x.0 in
    let h = x.3.1 in
    let given = x.2 in
    let r = list-within w a.store.now st a.at a.close a.place Annotated given h in
    let its = c.deref-items.result.now in
    let text = c.deref-text.result.now in
    let ends = subst (λ (xs : List Item). EndsBefore xs (a.at + 1) c.behind-second.result) c.deref-items.ensures.value c.behind-second.ensures in
    let is = is-second w a.store.now st a.at a.close a.place Annotated given h c.behind-second.result ends in
    let lt : c.behind-second.result < a.close = omega (arith, r.1, is, c.if-second-close.false) in
    let stand = term-stands w a.store.now st a.at a.close a.place given h its text c.deref-items.ensures.value c.deref-text.ensures.value c.behind-second.result is in
    let n = next-at its text c.behind-second.result a.close h.rest stand lt c.behind-from.result c.behind-from.ensures in
    (n.1, n.4)

pub are_attributes-requires-clause-within : goal.are_attributes-requires-clause-within
are_attributes-requires-clause-within c =
    let x = c.requires.list in
    let a = c.args in
    let st = state_of a.self.now in
    let w = source a.expr.now x.1 x.0 in
    let h = x.3.1 in
    let given = x.2 in
    let r = list-within w a.store.now st a.at a.close a.place Annotated given h in
    omega (arith, r.2, c.deref-items.ensures.len)

pub returns-then-not-are_attributes-clause-next : goal.returns-then-not-are_attributes-clause-next
returns-then-not-are_attributes-clause-next c = λ defs end given s h.
    let a = c.args in
    let st = state_of a.self.now in
    let w = source a.expr.now end defs in
    let r = list-within w a.store.now st a.at a.close a.place Annotated given h in
    let its = c.deref-items.result.now in
    let text = c.deref-text.result.now in
    let ends = subst (λ (xs : List Item). EndsBefore xs (a.at + 1) c.behind-second.result) c.deref-items.ensures.value c.behind-second.ensures in
    let is = is-second w a.store.now st a.at a.close a.place Annotated given h c.behind-second.result ends in
    let lt : c.behind-second.result < a.close = omega (arith, r.1, is, c.if-second-close.false) in
    let stand = term-stands w a.store.now st a.at a.close a.place given h its text c.deref-items.ensures.value c.deref-text.ensures.value c.behind-second.result is in
    let n = next-at its text c.behind-second.result a.close h.rest stand lt c.behind-from.result c.behind-from.ensures in
    attributes-refused w a.store.now st a.at a.close a.place given h n.0 n.1 n.2 (sym c.if-not-are_attributes.true ∙ c.are_attributes.ensures n.1 n.4)

pub naming_of-requires-clause-stand : goal.naming_of-requires-clause-stand
naming_of-requires-clause-stand c =
    let x = c.requires.list in
    let a = c.args in
    let st = state_of a.self.now in
    let w = source a.expr.now x.1 x.0 in
    let h = x.3.1 in
    let given = x.2 in
    let r = list-within w a.store.now st a.at a.close a.place Annotated given h in
    let its = c.deref-items.result.now in
    let text = c.deref-text.result.now in
    let ends = subst (λ (xs : List Item). EndsBefore xs (a.at + 1) c.behind-second.result) c.deref-items.ensures.value c.behind-second.ensures in
    let is = is-second w a.store.now st a.at a.close a.place Annotated given h c.behind-second.result ends in
    let lt : c.behind-second.result < a.close = omega (arith, r.1, is, c.if-second-close.false) in
    let stand = term-stands w a.store.now st a.at a.close a.place given h its text c.deref-items.ensures.value c.deref-text.ensures.value c.behind-second.result is in
    let n = next-at its text c.behind-second.result a.close h.rest stand lt c.behind-from.result c.behind-from.ensures in
    (n.1, n.4)

pub naming_of-requires-clause-within : goal.naming_of-requires-clause-within
naming_of-requires-clause-within c =
    let x = c.requires.list in
    let a = c.args in
    let st = state_of a.self.now in
    let w = source a.expr.now x.1 x.0 in
    let h = x.3.1 in
    let given = x.2 in
    let r = list-within w a.store.now st a.at a.close a.place Annotated given h in
    omega (arith, r.2, c.deref-items.ensures.len)

pub returns-in-Misnamed-clause-next : goal.returns-in-Misnamed-clause-next
returns-in-Misnamed-clause-next c = λ defs end given s h.
    let a = c.args in
    let st = state_of a.self.now in
    let w = source a.expr.now end defs in
    let r = list-within w a.store.now st a.at a.close a.place Annotated given h in
    let its = c.deref-items.result.now in
    let text = c.deref-text.result.now in
    let ends = subst (λ (xs : List Item). EndsBefore xs (a.at + 1) c.behind-second.result) c.deref-items.ensures.value c.behind-second.ensures in
    let is = is-second w a.store.now st a.at a.close a.place Annotated given h c.behind-second.result ends in
    let lt : c.behind-second.result < a.close = omega (arith, r.1, is, c.if-second-close.false) in
    let stand = term-stands w a.store.now st a.at a.close a.place given h its text c.deref-items.ensures.value c.deref-text.ensures.value c.behind-second.result is in
    let n = next-at its text c.behind-second.result a.close h.rest stand lt c.behind-from.result c.behind-from.ensures in
    misnamed-refused w a.store.now st a.at a.close a.place given h n.0 n.1 n.2 (sym c.if-not-are_attributes.false ∙ c.are_attributes.ensures n.1 n.4) (c.naming_of.ensures n.1 n.4 ∙ c.in-Misnamed.is)

pub returns-in_ok-reserve-in-Unnamed-clause-next : goal.returns-in_ok-reserve-in-Unnamed-clause-next
returns-in_ok-reserve-in-Unnamed-clause-next c = λ defs end given s h.
    let a = c.args in
    let st = state_of a.self.now in
    let w = source a.expr.now end defs in
    let r = list-within w a.store.now st a.at a.close a.place Annotated given h in
    let its = c.deref-items.result.now in
    let text = c.deref-text.result.now in
    let ends = subst (λ (xs : List Item). EndsBefore xs (a.at + 1) c.behind-second.result) c.deref-items.ensures.value c.behind-second.ensures in
    let is = is-second w a.store.now st a.at a.close a.place Annotated given h c.behind-second.result ends in
    let lt : c.behind-second.result < a.close = omega (arith, r.1, is, c.if-second-close.false) in
    let stand = term-stands w a.store.now st a.at a.close a.place given h its text c.deref-items.ensures.value c.deref-text.ensures.value c.behind-second.result is in
    let n = next-at its text c.behind-second.result a.close h.rest stand lt c.behind-from.result c.behind-from.ensures in
    let back = moved-back w a.store.now st a.at a.close a.place given h its text c.deref-items.ensures.value c.deref-text.ensures.value c.behind-second.result is n.0 n.1 c.behind-from.result n.3 n.4 in
    let ok = annotated-into w a.store.now st a.at a.close a.place given h n.0 n.1 n.2 (sym c.if-not-are_attributes.false ∙ c.are_attributes.ensures n.1 n.4) (right-told _ _ (c.naming_of.ensures n.1 n.4) c.in-Unnamed.is) c.behind-from.result back.0 back.1 c.len-bound.result c.len-bound.ensures in
    let o = opened.Passing a.close c.len-bound.result in
    let stack = pushed a.self.now.open.items c.push_reserved.new.self.items o (c.push_reserved.ensures.items ∙ ap (λ os. os ++ o ∷ []) c.reserve.ensures.items) in
    subst (λ n. IsReading w a.store.now (state_of (record a.self.now { «open» = c.push_reserved.new.self })) n given) (sym is)
    (reading-at w a.store.now (o ∷ reverse a.self.now.open.items) (reverse c.push_reserved.new.self.items) a.self.now.done.items a.self.now.done.items a.self.now.bound a.self.now.pending a.self.now.binders a.self.now.watched.items h.second given stack refl ok)

pub returns-in_ok-reserve-in-Unnamed-clause-fewer : goal.returns-in_ok-reserve-in-Unnamed-clause-fewer
returns-in_ok-reserve-in-Unnamed-clause-fewer c =
    let x = c.requires.list in
    let a = c.args in
    let st = state_of a.self.now in
    let w = source a.expr.now x.1 x.0 in
    let h = x.3.1 in
    let given = x.2 in
    let r = list-within w a.store.now st a.at a.close a.place Annotated given h in
    let its = c.deref-items.result.now in
    let text = c.deref-text.result.now in
    let ends = subst (λ (xs : List Item). EndsBefore xs (a.at + 1) c.behind-second.result) c.deref-items.ensures.value c.behind-second.ensures in
    let is = is-second w a.store.now st a.at a.close a.place Annotated given h c.behind-second.result ends in
    omega (arith, r.0, r.1, r.2, is)

pub returns-in_err-reserve-in-Unnamed-clause-begins : goal.returns-in_err-reserve-in-Unnamed-clause-begins
returns-in_err-reserve-in-Unnamed-clause-begins c = λ defs end given s h.
    let a = c.args in
    let st = state_of a.self.now in
    let w = source a.expr.now end defs in
    let r = list-within w a.store.now st a.at a.close a.place Annotated given h in
    let its = c.deref-items.result.now in
    let text = c.deref-text.result.now in
    let ends = subst (λ (xs : List Item). EndsBefore xs (a.at + 1) c.behind-second.result) c.deref-items.ensures.value c.behind-second.ensures in
    let is = is-second w a.store.now st a.at a.close a.place Annotated given h c.behind-second.result ends in
    let lt : c.behind-second.result < a.close = omega (arith, r.1, is, c.if-second-close.false) in
    let stand = term-stands w a.store.now st a.at a.close a.place given h its text c.deref-items.ensures.value c.deref-text.ensures.value c.behind-second.result is in
    let n = next-at its text c.behind-second.result a.close h.rest stand lt c.behind-from.result c.behind-from.ensures in
    begins-anyhow (list_beginning Annotated a.place h.first h.rest defs) c.from_residual.result
    (annotated-begins a.place h.first h.rest defs n.0 n.1 n.2 (sym c.if-not-are_attributes.false ∙ c.are_attributes.ensures n.1 n.4) (right-told _ _ (c.naming_of.ensures n.1 n.4) c.in-Unnamed.is))

pub returns-in_ok-reserve-in-Unnamed-clause-begins : goal.returns-in_ok-reserve-in-Unnamed-clause-begins
returns-in_ok-reserve-in-Unnamed-clause-begins c = λ defs end given s h.
    let a = c.args in
    let st = state_of a.self.now in
    let w = source a.expr.now end defs in
    let r = list-within w a.store.now st a.at a.close a.place Annotated given h in
    let its = c.deref-items.result.now in
    let text = c.deref-text.result.now in
    let ends = subst (λ (xs : List Item). EndsBefore xs (a.at + 1) c.behind-second.result) c.deref-items.ensures.value c.behind-second.ensures in
    let is = is-second w a.store.now st a.at a.close a.place Annotated given h c.behind-second.result ends in
    let lt : c.behind-second.result < a.close = omega (arith, r.1, is, c.if-second-close.false) in
    let stand = term-stands w a.store.now st a.at a.close a.place given h its text c.deref-items.ensures.value c.deref-text.ensures.value c.behind-second.result is in
    let n = next-at its text c.behind-second.result a.close h.rest stand lt c.behind-from.result c.behind-from.ensures in
    annotated-begins a.place h.first h.rest defs n.0 n.1 n.2 (sym c.if-not-are_attributes.false ∙ c.are_attributes.ensures n.1 n.4) (right-told _ _ (c.naming_of.ensures n.1 n.4) c.in-Unnamed.is)
