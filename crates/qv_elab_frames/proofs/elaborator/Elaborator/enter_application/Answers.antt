use Rattle.std.proofs.Common.{◌<◌, ◌≤◌, ◌+◌, ◌++◌, ◌∷◌, [], ℕ, List, length, reverse, refl, sym, ap, subst, ◌∙◌, arith}
use Rattle.std.proofs.lemmas.Result.{err_from_is_err_and}
use Rattle.qv_sexpr.specs.declared.items.Item.{Item}
use Rattle.qv_sexpr.specs.Copying.{EndsBefore}
use Rattle.qv_elab_frames.specs.declared.elaborator.Open.TheVariants as opened
use Rattle.qv_elab_defs.specs.Shapes.{Application}
use Rattle.qv_elab_frames.specs.Loop.{source, state_of, IsReading}
use Rattle.qv_elab_frames.proofs.Departing.{reading-at, pushed}
use Rattle.qv_elab_defs.specs.Heads.{head_of}
use Rattle.qv_elab_defs.specs.Beginnings.{list_beginning}
use Rattle.qv_elab_defs.proofs.Beginning.{begins-anyhow}
use Rattle.qv_elab_scope.specs.Headed.{name_at}
use Rattle.qv_elab_frames.proofs.Begun.{application-begins, told-begins, told-ok}
use Rattle.qv_elab_frames.proofs.Inside.{list-within, some-behind, first-ends, second-is, no-arguments, first-begins, told-fails, told-into}
use Rattle.qv_elab_frames.proofs.elaborator.Elaborator.enter_application.Goals as goal

pub overflow_add-at : goal.overflow_add-at
overflow_add-at c =
    let x = c.requires.list in
    let n = list-within (source c.args.expr.now x.1 x.0) c.args.store.now (state_of c.args.self.now) c.args.at c.args.close c.args.place Application x.2 x.3.1 in
    omega (arith, n.0, n.1, n.2, c.args.expr.now.items.small, c.args.expr.now.items.ok.0, c.args.expr.now.items.ok.1)

pub overflow_add-head_at : goal.overflow_add-head_at
overflow_add-head_at c =
    let x = c.requires.list in
    let n = list-within (source c.args.expr.now x.1 x.0) c.args.store.now (state_of c.args.self.now) c.args.at c.args.close c.args.place Application x.2 x.3.1 in
    omega (arith, n.0, n.1, n.2, c.args.expr.now.items.small, c.args.expr.now.items.ok.0, c.args.expr.now.items.ok.1)

pub behind-second-requires : goal.behind-second-requires
behind-second-requires c =
    let x = c.requires.list in
    let w = source c.args.expr.now x.1 x.0 in
    let n = list-within w c.args.store.now (state_of c.args.self.now) c.args.at c.args.close c.args.place Application x.2 x.3.1 in
    let e = first-ends w c.args.store.now (state_of c.args.self.now) c.args.at c.args.close c.args.place x.2 x.3.1 in
    subst (λ (its : List Item). (to : ℕ) × (to ≤ length its) × (c.args.at + 1 < to) × EndsBefore its (c.args.at + 1) to) (sym c.deref.ensures.value) (x.3.1.second, e.0, n.0, e.1)

pub returns-then-second-close-clause-next : goal.returns-then-second-close-clause-next
returns-then-second-close-clause-next c = λ defs end given s h.
    let w = source c.args.expr.now end defs in
    let ends = subst (λ (its : List Item). EndsBefore its (c.args.at + 1) c.behind-second.result) c.deref.ensures.value c.behind-second.ensures in
    let is = second-is w c.args.store.now (state_of c.args.self.now) c.args.at c.args.close c.args.place given h c.behind-second.result ends in
    let same = c.if-second-close.true in
    no-arguments w c.args.store.now (state_of c.args.self.now) c.args.at c.args.close c.args.place given h (sym is ∙ same)

pub head_of-requires-clause-at : goal.head_of-requires-clause-at
head_of-requires-clause-at c =
    let x = c.requires.list in
    first-begins (source c.args.expr.now x.1 x.0) c.args.store.now (state_of c.args.self.now) c.args.at c.args.close c.args.place x.2 x.3.1

pub returns-in_err-head-clause-next : goal.returns-in_err-head-clause-next
returns-in_err-head-clause-next c = λ defs end given s h.
    let w = source c.args.expr.now end defs in
    let st = state_of c.args.self.now in
    let ends = subst (λ (its : List Item). EndsBefore its (c.args.at + 1) c.behind-second.result) c.deref.ensures.value c.behind-second.ensures in
    let is = second-is w c.args.store.now st c.args.at c.args.close c.args.place given h c.behind-second.result ends in
    let told = c.head_of.ensures c.args.store.now defs h.first h.second s h.first_stands in
    let q = err_from_is_err_and c.from_residual.result c.from_residual.ensures.1 in
    told-fails w c.args.store.now st c.args.at c.args.close c.args.place given h (λ e. c.if-second-close.false (is ∙ e)) c.head_of.result c.in_err-head.field-0.0 q.0 c.from_residual.result told c.in_err-head.was q.1 q.2

pub returns-clause-next : goal.returns-clause-next
returns-clause-next c = λ defs end given s h.
    let w = source c.args.expr.now end defs in
    let st = state_of c.args.self.now in
    let ends = subst (λ (its : List Item). EndsBefore its (c.args.at + 1) c.behind-second.result) c.deref.ensures.value c.behind-second.ensures in
    let is = second-is w c.args.store.now st c.args.at c.args.close c.args.place given h c.behind-second.result ends in
    let told = c.head_of.ensures c.args.store.now defs h.first h.second s h.first_stands in
    let o = opened.Application c.args.place c.in_ok-head.head (c.args.at + 1) c.len-first.result in
    let ok = told-into w c.args.store.now st c.args.at c.args.close c.args.place given h (λ e. c.if-second-close.false (is ∙ e)) c.head_of.result c.in_ok-head.head c.len-first.result told c.in_ok-head.was (c.len-first.ensures ∙ c.args.self.now.done.ok.0) in
    let stack = pushed c.args.self.now.open.items c.push_reserved.new.self.items o (c.push_reserved.ensures.items ∙ ap (λ os. os ++ o ∷ []) c.reserve.ensures.items) in
    subst (λ n. IsReading w c.args.store.now (state_of (record c.args.self.now { «open» = c.push_reserved.new.self })) n given) (sym is)
    (reading-at w c.args.store.now (o ∷ reverse c.args.self.now.open.items) (reverse c.push_reserved.new.self.items) c.args.self.now.done.items c.args.self.now.done.items c.args.self.now.bound c.args.self.now.pending c.args.self.now.binders c.args.self.now.watched.items h.second given stack refl ok)

pub returns-clause-fewer : goal.returns-clause-fewer
returns-clause-fewer c =
    let x = c.requires.list in
    let w = source c.args.expr.now x.1 x.0 in
    let n = list-within w c.args.store.now (state_of c.args.self.now) c.args.at c.args.close c.args.place Application x.2 x.3.1 in
    let ends = subst (λ (its : List Item). EndsBefore its (c.args.at + 1) c.behind-second.result) c.deref.ensures.value c.behind-second.ensures in
    let is = second-is w c.args.store.now (state_of c.args.self.now) c.args.at c.args.close c.args.place x.2 x.3.1 c.behind-second.result ends in
    omega (arith, n.0, n.1, n.2, is)

pub returns-in_err-head-clause-begins : goal.returns-in_err-head-clause-begins
returns-in_err-head-clause-begins c = λ defs end given s h.
    let w = source c.args.expr.now end defs in
    let told = c.head_of.ensures c.args.store.now defs h.first h.second s h.first_stands in
    let q = err_from_is_err_and c.from_residual.result c.from_residual.ensures.1 in
    told-begins (list_beginning Application c.args.place h.first h.rest defs) defs (name_at w.items.text.items w.items.items.items (c.args.at + 1)) (head_of defs c.args.place h.first) c.head_of.result c.in_err-head.field-0.0 q.0 c.from_residual.result told c.in_err-head.was q.1 q.2

pub returns-in_err-reserve-clause-begins : goal.returns-in_err-reserve-clause-begins
returns-in_err-reserve-clause-begins c = λ defs end given s h.
    let w = source c.args.expr.now end defs in
    let st = state_of c.args.self.now in
    let ends = subst (λ (its : List Item). EndsBefore its (c.args.at + 1) c.behind-second.result) c.deref.ensures.value c.behind-second.ensures in
    let is = second-is w c.args.store.now st c.args.at c.args.close c.args.place given h c.behind-second.result ends in
    let told = c.head_of.ensures c.args.store.now defs h.first h.second s h.first_stands in
    let b = some-behind w c.args.store.now st c.args.at c.args.close c.args.place Application given h (λ e. c.if-second-close.false (is ∙ e)) in
    let k = told-ok defs (name_at w.items.text.items w.items.items.items (c.args.at + 1)) (head_of defs c.args.place h.first) c.head_of.result c.in_ok-head.head told c.in_ok-head.was in
    begins-anyhow (list_beginning Application c.args.place h.first h.rest defs) c.from_residual-in_err-reserve.result (application-begins c.args.place h.first h.rest defs b.0 b.1 b.3 k.0 k.1)

pub returns-clause-begins : goal.returns-clause-begins
returns-clause-begins c = λ defs end given s h.
    let w = source c.args.expr.now end defs in
    let st = state_of c.args.self.now in
    let ends = subst (λ (its : List Item). EndsBefore its (c.args.at + 1) c.behind-second.result) c.deref.ensures.value c.behind-second.ensures in
    let is = second-is w c.args.store.now st c.args.at c.args.close c.args.place given h c.behind-second.result ends in
    let told = c.head_of.ensures c.args.store.now defs h.first h.second s h.first_stands in
    let b = some-behind w c.args.store.now st c.args.at c.args.close c.args.place Application given h (λ e. c.if-second-close.false (is ∙ e)) in
    let k = told-ok defs (name_at w.items.text.items w.items.items.items (c.args.at + 1)) (head_of defs c.args.place h.first) c.head_of.result c.in_ok-head.head told c.in_ok-head.was in
    application-begins c.args.place h.first h.rest defs b.0 b.1 b.3 k.0 k.1
