use Rattle.std.proofs.Common.{◌≡◌, ◌⊎◌, inl, inr, ◌<◌, ◌≤◌, ◌+◌, ◌-◌, ◌*◌, ℕ, List, length, reverse, sym, ap, subst, ◌∙◌, arith}
use Rattle.qv_sexpr.specs.declared.items.Item.{Item}
use Rattle.qv_sexpr.specs.Copying.{EndsBefore}
use Rattle.qv_elab_defs.specs.Shapes.{Quantifier, Universal, Existential, Let, Quantified, Annotated, Application}
use Rattle.qv_elab_items.specs.Flat.{construct_in}
use Rattle.qv_elab_items.specs.Listed.{meant}
use Rattle.qv_elab_items.specs.declared.shapes.Shape.{Shape}
use Rattle.qv_elab_items.specs.declared.shapes.Shape.TheVariants as shape
use Rattle.qv_elab_items.proofs.Attributed.{next-before}
use Rattle.qv_elab_items.proofs.Within.{item-at}
use Rattle.qv_script_parts.specs.declared.labels.Task.{Task}
use Rattle.qv_script_parts.specs.Walking.{IsOpen, work}
use Rattle.qv_script_parts.proofs.Walks.{empty-list, list-begins, list-entered, within-is, within-bounds, applied-within, other-within}
use Rattle.qv_script_parts.proofs.labels.Walk.enter.Goals as goal

pub returns-then-close-at-clause-next : goal.returns-then-close-at-clause-next
returns-then-close-at-clause-next c = λ given h.
    let a = c.args in
    empty-list a.expr.now a.at a.close a.around (reverse a.self.now.todo.items) a.self.now.bound a.self.now.found.items given c.requires.list (omega (arith, c.if-close-at.true)) h

pub behind-second-requires : goal.behind-second-requires
behind-second-requires c =
    let a = c.args in
    let x = c.requires.walk in
    let l = list-begins a.expr.now a.at a.close a.around (reverse a.self.now.todo.items) a.self.now.bound a.self.now.found.items x.0 c.requires.list x.1 in
    let lt : a.at + 1 < a.close = omega (arith, c.if-close-at.false) in
    subst (λ (its : List Item). (to : ℕ) × (to ≤ length its) × (a.at + 1 < to) × EndsBefore its (a.at + 1) to) (sym c.deref.ensures.value)
    (next-before a.expr.now.items.items a.expr.now.text.items (a.at + 1) a.close l.0 l.1 lt)

pub index-requires : goal.index-requires
index-requires c =
    let a = c.args in
    let x = c.requires.walk in
    let l = list-begins a.expr.now a.at a.close a.around (reverse a.self.now.todo.items) a.self.now.bound a.self.now.found.items x.0 c.requires.list x.1 in
    omega (arith, l.2, c.if-close-at.false, a.expr.now.items.ok.0)

pub pairs-requires : goal.pairs-requires
pairs-requires c =
    let a = c.args in
    let ts = reverse a.self.now.todo.items in
    let x = c.requires.walk in
    let l = list-begins a.expr.now a.at a.close a.around ts a.self.now.bound a.self.now.found.items x.0 c.requires.list x.1 in
    let lt : a.at + 1 < a.close = omega (arith, c.if-close-at.false) in
    let there = item-at a.expr.now.items.items (a.at + 1) c.index.result.now (omega (arith, lt, l.2)) c.index.ensures in
    let ends = subst (λ (its : List Item). EndsBefore its (a.at + 1) c.behind-second.result) c.deref.ensures.value c.behind-second.ensures in
    let w = list-entered a.expr.now a.at a.close a.around ts a.self.now.bound a.self.now.found.items x.0 c.requires.list lt c.behind-second.result ends x.1 in
    let kind : construct_in a.expr.now.text.items c.index.result.now ≡ Let = ap (λ (t : List ℕ). construct_in t c.index.result.now) (sym c.deref-2.ensures.value) ∙ sym c.shape_of.ensures ∙ ap meant c.in-Let.is in
    record { walk = (x.0, within-is a.expr.now a.at c.behind-second.result a.close w.0 a.around ts a.self.now.bound a.self.now.found.items x.0 c.index.result.now there w.1 Let kind) }

pub returns-in-Let-clause-next : goal.returns-in-Let-clause-next
returns-in-Let-clause-next c = λ given h.
    let a = c.args in
    let ts = reverse a.self.now.todo.items in
    let l = list-begins a.expr.now a.at a.close a.around ts a.self.now.bound a.self.now.found.items given c.requires.list h in
    let lt : a.at + 1 < a.close = omega (arith, c.if-close-at.false) in
    let there = item-at a.expr.now.items.items (a.at + 1) c.index.result.now (omega (arith, lt, l.2)) c.index.ensures in
    let ends = subst (λ (its : List Item). EndsBefore its (a.at + 1) c.behind-second.result) c.deref.ensures.value c.behind-second.ensures in
    let w = list-entered a.expr.now a.at a.close a.around ts a.self.now.bound a.self.now.found.items given c.requires.list lt c.behind-second.result ends h in
    let kind : construct_in a.expr.now.text.items c.index.result.now ≡ Let = ap (λ (t : List ℕ). construct_in t c.index.result.now) (sym c.deref-2.ensures.value) ∙ sym c.shape_of.ensures ∙ ap meant c.in-Let.is in
    c.pairs.ensures.next given (within-is a.expr.now a.at c.behind-second.result a.close w.0 a.around ts a.self.now.bound a.self.now.found.items given c.index.result.now there w.1 Let kind)

-- a quantifier, of which kind it may be
quantifier-kind : (sh : Shape) → (sh ≡ shape.Universal) ⊎ (sh ≡ shape.Existential) → (q : Quantifier) × (meant sh ≡ Quantified q)
quantifier-kind sh (inl e) = (Universal, ap meant e)
quantifier-kind sh (inr e) = (Existential, ap meant e)

pub binders-requires : goal.binders-requires
binders-requires c =
    let a = c.args in
    let ts = reverse a.self.now.todo.items in
    let x = c.requires.walk in
    let l = list-begins a.expr.now a.at a.close a.around ts a.self.now.bound a.self.now.found.items x.0 c.requires.list x.1 in
    let lt : a.at + 1 < a.close = omega (arith, c.if-close-at.false) in
    let there = item-at a.expr.now.items.items (a.at + 1) c.index.result.now (omega (arith, lt, l.2)) c.index.ensures in
    let ends = subst (λ (its : List Item). EndsBefore its (a.at + 1) c.behind-second.result) c.deref.ensures.value c.behind-second.ensures in
    let w = list-entered a.expr.now a.at a.close a.around ts a.self.now.bound a.self.now.found.items x.0 c.requires.list lt c.behind-second.result ends x.1 in
    let q = quantifier-kind c.shape_of.result c.in-Universal.is in
    let kind : construct_in a.expr.now.text.items c.index.result.now ≡ Quantified q.0 = ap (λ (t : List ℕ). construct_in t c.index.result.now) (sym c.deref-2.ensures.value) ∙ sym c.shape_of.ensures ∙ q.1 in
    record { walk = (x.0, (q.0, within-is a.expr.now a.at c.behind-second.result a.close w.0 a.around ts a.self.now.bound a.self.now.found.items x.0 c.index.result.now there w.1 (Quantified q.0) kind)) }

pub returns-in-Universal-clause-next : goal.returns-in-Universal-clause-next
returns-in-Universal-clause-next c = λ given h.
    let a = c.args in
    let ts = reverse a.self.now.todo.items in
    let l = list-begins a.expr.now a.at a.close a.around ts a.self.now.bound a.self.now.found.items given c.requires.list h in
    let lt : a.at + 1 < a.close = omega (arith, c.if-close-at.false) in
    let there = item-at a.expr.now.items.items (a.at + 1) c.index.result.now (omega (arith, lt, l.2)) c.index.ensures in
    let ends = subst (λ (its : List Item). EndsBefore its (a.at + 1) c.behind-second.result) c.deref.ensures.value c.behind-second.ensures in
    let w = list-entered a.expr.now a.at a.close a.around ts a.self.now.bound a.self.now.found.items given c.requires.list lt c.behind-second.result ends h in
    let q = quantifier-kind c.shape_of.result c.in-Universal.is in
    let kind : construct_in a.expr.now.text.items c.index.result.now ≡ Quantified q.0 = ap (λ (t : List ℕ). construct_in t c.index.result.now) (sym c.deref-2.ensures.value) ∙ sym c.shape_of.ensures ∙ q.1 in
    c.binders.ensures.next given q.0 (within-is a.expr.now a.at c.behind-second.result a.close w.0 a.around ts a.self.now.bound a.self.now.found.items given c.index.result.now there w.1 (Quantified q.0) kind)

pub annotated-requires-clause-walk : goal.annotated-requires-clause-walk
annotated-requires-clause-walk c =
    let a = c.args in
    let ts = reverse a.self.now.todo.items in
    let x = c.requires.walk in
    let l = list-begins a.expr.now a.at a.close a.around ts a.self.now.bound a.self.now.found.items x.0 c.requires.list x.1 in
    let lt : a.at + 1 < a.close = omega (arith, c.if-close-at.false) in
    let there = item-at a.expr.now.items.items (a.at + 1) c.index.result.now (omega (arith, lt, l.2)) c.index.ensures in
    let ends = subst (λ (its : List Item). EndsBefore its (a.at + 1) c.behind-second.result) c.deref.ensures.value c.behind-second.ensures in
    let w = list-entered a.expr.now a.at a.close a.around ts a.self.now.bound a.self.now.found.items x.0 c.requires.list lt c.behind-second.result ends x.1 in
    let kind : construct_in a.expr.now.text.items c.index.result.now ≡ Annotated = ap (λ (t : List ℕ). construct_in t c.index.result.now) (sym c.deref-2.ensures.value) ∙ sym c.shape_of.ensures ∙ ap meant c.in-Annotated.is in
    (x.0, within-is a.expr.now a.at c.behind-second.result a.close w.0 a.around ts a.self.now.bound a.self.now.found.items x.0 c.index.result.now there w.1 Annotated kind)

pub returns-in-Annotated-clause-next : goal.returns-in-Annotated-clause-next
returns-in-Annotated-clause-next c = λ given h.
    let a = c.args in
    let ts = reverse a.self.now.todo.items in
    let l = list-begins a.expr.now a.at a.close a.around ts a.self.now.bound a.self.now.found.items given c.requires.list h in
    let lt : a.at + 1 < a.close = omega (arith, c.if-close-at.false) in
    let there = item-at a.expr.now.items.items (a.at + 1) c.index.result.now (omega (arith, lt, l.2)) c.index.ensures in
    let ends = subst (λ (its : List Item). EndsBefore its (a.at + 1) c.behind-second.result) c.deref.ensures.value c.behind-second.ensures in
    let w = list-entered a.expr.now a.at a.close a.around ts a.self.now.bound a.self.now.found.items given c.requires.list lt c.behind-second.result ends h in
    let kind : construct_in a.expr.now.text.items c.index.result.now ≡ Annotated = ap (λ (t : List ℕ). construct_in t c.index.result.now) (sym c.deref-2.ensures.value) ∙ sym c.shape_of.ensures ∙ ap meant c.in-Annotated.is in
    c.annotated.ensures.next given (within-is a.expr.now a.at c.behind-second.result a.close w.0 a.around ts a.self.now.bound a.self.now.found.items given c.index.result.now there w.1 Annotated kind)

pub returns-in_ok-leave-in-Application-clause-next : goal.returns-in_ok-leave-in-Application-clause-next
returns-in_ok-leave-in-Application-clause-next c = λ given h.
    let a = c.args in
    let ts = reverse a.self.now.todo.items in
    let l = list-begins a.expr.now a.at a.close a.around ts a.self.now.bound a.self.now.found.items given c.requires.list h in
    let lt : a.at + 1 < a.close = omega (arith, c.if-close-at.false) in
    let there = item-at a.expr.now.items.items (a.at + 1) c.index.result.now (omega (arith, lt, l.2)) c.index.ensures in
    let ends = subst (λ (its : List Item). EndsBefore its (a.at + 1) c.behind-second.result) c.deref.ensures.value c.behind-second.ensures in
    let w = list-entered a.expr.now a.at a.close a.around ts a.self.now.bound a.self.now.found.items given c.requires.list lt c.behind-second.result ends h in
    let kind : construct_in a.expr.now.text.items c.index.result.now ≡ Application = ap (λ (t : List ℕ). construct_in t c.index.result.now) (sym c.deref-2.ensures.value) ∙ sym c.shape_of.ensures ∙ ap meant c.in-Application.is in
    let le : a.close ≤ length a.expr.now.items.items = omega (arith, l.2) in
    subst (λ (us : List Task). IsOpen a.expr.now us a.self.now.bound a.self.now.found.items given) (sym c.in_ok-leave-in-Application.ensures)
    (applied-within a.expr.now a.at c.behind-second.result a.close a.around ts a.self.now.bound a.self.now.found.items given le
    (within-is a.expr.now a.at c.behind-second.result a.close w.0 a.around ts a.self.now.bound a.self.now.found.items given c.index.result.now there w.1 Application kind))

pub returns-in_ok-leave-in-Application-clause-few : goal.returns-in_ok-leave-in-Application-clause-few
returns-in_ok-leave-in-Application-clause-few c =
    let a = c.args in
    let ts = reverse a.self.now.todo.items in
    let x = c.requires.walk in
    let lt : a.at + 1 < a.close = omega (arith, c.if-close-at.false) in
    let ends = subst (λ (its : List Item). EndsBefore its (a.at + 1) c.behind-second.result) c.deref.ensures.value c.behind-second.ensures in
    let w = list-entered a.expr.now a.at a.close a.around ts a.self.now.bound a.self.now.found.items x.0 c.requires.list lt c.behind-second.result ends x.1 in
    let b = within-bounds a.expr.now a.at c.behind-second.result a.close a.around ts a.self.now.bound a.self.now.found.items x.0 w.0 w.1 in
    let more : work (reverse c.leave.new.todo.items) ≡ 1 + 3 * (a.close - c.behind-second.result) + work ts = ap work c.in_ok-leave-in-Application.ensures in
    omega (arith, more, b.0, b.1, lt)

pub returns-in_default-clause-next : goal.returns-in_default-clause-next
returns-in_default-clause-next c = λ given h.
    let a = c.args in
    let ts = reverse a.self.now.todo.items in
    let l = list-begins a.expr.now a.at a.close a.around ts a.self.now.bound a.self.now.found.items given c.requires.list h in
    let lt : a.at + 1 < a.close = omega (arith, c.if-close-at.false) in
    let there = item-at a.expr.now.items.items (a.at + 1) c.index.result.now (omega (arith, lt, l.2)) c.index.ensures in
    let ends = subst (λ (its : List Item). EndsBefore its (a.at + 1) c.behind-second.result) c.deref.ensures.value c.behind-second.ensures in
    let w = list-entered a.expr.now a.at a.close a.around ts a.self.now.bound a.self.now.found.items given c.requires.list lt c.behind-second.result ends h in
    let kind : construct_in a.expr.now.text.items c.index.result.now ≡ meant c.shape_of.result = ap (λ (t : List ℕ). construct_in t c.index.result.now) (sym c.deref-2.ensures.value) ∙ sym c.shape_of.ensures in
    other-within a.expr.now a.at c.behind-second.result a.close a.around ts a.self.now.bound a.self.now.found.items given c.shape_of.result
    c.in_default.not-Let c.in_default.not-Universal c.in_default.not-Existential c.in_default.not-Annotated c.in_default.not-Application
    (within-is a.expr.now a.at c.behind-second.result a.close w.0 a.around ts a.self.now.bound a.self.now.found.items given c.index.result.now there w.1 (meant c.shape_of.result) kind)
