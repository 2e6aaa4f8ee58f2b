use Rattle.std.proofs.Common.{◌+◌, ◌-◌, ◌++◌, ◌∷◌, [], length, take, reverse, refl, sym, ap, ◌∙◌, arith}
use Rattle.std.specs.Prelude.{is_some}
use Rattle.qv_elab_frames.specs.declared.elaborator.Open.TheVariants as opened
use Rattle.qv_elab_defs.specs.declared.faults.ElabKind.TheVariants.{RepeatedName}
use Rattle.qv_elab_defs.specs.Faults.{refuse}
use Rattle.qv_elab_items.specs.Flat.{name_in}
use Rattle.qv_elab_defs.specs.Scopes.{found}
use Rattle.qv_elab_frames.specs.Loop.{source, state_of}
use Rattle.qv_elab_frames.proofs.Departing.{reading-at, pushed}
use Rattle.qv_elab_frames.proofs.Letting.{pair-within, pair-has, name-same, place-same, pair-repeated, into-pair}
use Rattle.qv_elab_scope.proofs.BoundVariables.{is-named, given-is}
use Rattle.qv_elab_frames.proofs.elaborator.Elaborator.enter_pair.Goals as goal

pub unwrap-name-requires : goal.unwrap-name-requires
unwrap-name-requires c =
    let q = c.requires in
    let a = c.args in
    let x = c.index-item.result.now in
    let has = pair-has (source a.expr.now q.1.1 q.1.0) q.0 (state_of a.self.now) a.name_at a.start q.1.2 q.1.3 x c.index-item.ensures in
    is-named c.name_in.result _ (c.name_in.ensures ∙ ap (λ t. name_in t x) c.deref.ensures.value ∙ has)

pub returns-then-has_from-clause-next : goal.returns-then-has_from-clause-next
returns-then-has_from-clause-next c = λ trees defs end given h.
    let a = c.args in
    let w = source a.expr.now end defs in
    let st = state_of a.self.now in
    let x = c.index-item.result.now in
    let name = given-is c.name_in.result c.unwrap-name.result (name_in a.expr.now.text.items x) c.unwrap-name.ensures (c.name_in.ensures ∙ ap (λ t. name_in t x) c.deref.ensures.value) in
    let same = name-same w trees st a.name_at a.start given h x c.index-item.ensures c.unwrap-name.result.now name in
    let place = place-same w trees st a.name_at a.start given h x c.index-item.ensures c.unwrap-name.result.now name in
    let has = sym c.if-has_from.true ∙ c.has_from.ensures ∙ ap (λ n. is_some (found n (take (length a.self.now.pending - a.start) a.self.now.pending))) same in
    pair-repeated w trees st a.name_at a.start given h has ∙ ap (λ p. refuse p RepeatedName) place

pub overflow_add-result : goal.overflow_add-result
overflow_add-result c =
    let x = c.requires in
    let lt = pair-within (source c.args.expr.now x.1.1 x.1.0) x.0 (state_of c.args.self.now) c.args.name_at c.args.start x.1.2 x.1.3 in
    omega (arith, lt, c.args.expr.now.items.small, c.args.expr.now.items.ok.0, c.args.expr.now.items.ok.1)

pub returns-clause-next : goal.returns-clause-next
returns-clause-next c = λ trees defs end given h.
    let a = c.args in
    let s = a.self.now in
    let w = source a.expr.now end defs in
    let x = c.index-item.result.now in
    let name = given-is c.name_in.result c.unwrap-name.result (name_in a.expr.now.text.items x) c.unwrap-name.ensures (c.name_in.ensures ∙ ap (λ t. name_in t x) c.deref.ensures.value) in
    let same = name-same w trees (state_of s) a.name_at a.start given h x c.index-item.ensures c.unwrap-name.result.now name in
    let has = sym c.if-has_from.false ∙ c.has_from.ensures ∙ ap (λ n. is_some (found n (take (length s.pending - a.start) s.pending))) same in
    let o = opened.Let a.name_at a.start in
    let stack = pushed s.open.items c.push_reserved.new.self.items o (c.push_reserved.ensures.items ∙ ap (λ os. os ++ o ∷ []) c.reserve.ensures.items) in
    reading-at w trees (o ∷ reverse s.open.items) (reverse c.push_reserved.new.self.items) s.done.items s.done.items s.bound s.pending s.binders s.watched.items (a.name_at + 1) given stack refl
    (into-pair w trees (state_of s) a.name_at a.start given h has)

pub returns-clause-onward : goal.returns-clause-onward
returns-clause-onward c =
    let x = c.requires in
    let lt = pair-within (source c.args.expr.now x.1.1 x.1.0) x.0 (state_of c.args.self.now) c.args.name_at c.args.start x.1.2 x.1.3 in
    omega (arith, lt)
