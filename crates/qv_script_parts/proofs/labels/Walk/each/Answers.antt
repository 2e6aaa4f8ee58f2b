use Rattle.std.proofs.Common.{◌≡◌, ◌<◌, ◌≤◌, ◌+◌, ◌-◌, ◌*◌, ◌∷◌, ℕ, Option, List, Bor, length, reverse, sym, ap, subst, ◌∙◌, arith}
use Rattle.std.specs.Prelude.{option_map}
use Rattle.qv_sexpr.specs.declared.items.Item.{Item}
use Rattle.qv_sexpr.specs.Copying.{EndsBefore}
use Rattle.qv_elab_items.specs.Flat.{name_in}
use Rattle.qv_elab_items.proofs.Attributed.{next-before, next-at}
use Rattle.qv_elab_items.proofs.Within.{item-at}
use Rattle.qv_script_parts.specs.declared.labels.Task.{Task}
use Rattle.qv_script_parts.specs.declared.labels.Task.TheVariants as task
use Rattle.qv_script_parts.specs.Walking.{IsAt, IsAtName, work}
use Rattle.qv_script_parts.proofs.Walks.{none-left, each-begins, each-entered, open-here, atom-named, ends-open, ok-less, ok-any}
use Rattle.qv_script_parts.proofs.labels.Walk.each.Goals as goal

pub returns-then-to-from-clause-next : goal.returns-then-to-from-clause-next
returns-then-to-from-clause-next c = λ given h.
    let a = c.args in
    none-left a.expr.now a.from a.to a.around (reverse a.self.now.todo.items) a.self.now.bound a.self.now.found.items given (omega (arith, c.if-to-from.true)) h

pub behind-next-requires : goal.behind-next-requires
behind-next-requires c =
    let a = c.args in
    let x = c.requires.walk in
    let lt : a.from < a.to = omega (arith, c.if-to-from.false) in
    let b = each-begins a.expr.now a.from a.to a.around (reverse a.self.now.todo.items) a.self.now.bound a.self.now.found.items x.0 lt x.1 in
    subst (λ (its : List Item). (to : ℕ) × (to ≤ length its) × (a.from < to) × EndsBefore its a.from to) (sym c.deref.ensures.value)
    (next-before a.expr.now.items.items a.expr.now.text.items a.from a.to b.0 b.1 lt)

pub enter-requires-clause-list : goal.enter-requires-clause-list
enter-requires-clause-list c =
    let a = c.args in
    let w = a.self.now in
    let ts = reverse w.todo.items in
    let x = c.requires.walk in
    let lt : a.from < a.to = omega (arith, c.if-to-from.false) in
    let b = each-begins a.expr.now a.from a.to a.around ts w.bound w.found.items x.0 lt x.1 in
    let ends = subst (λ (its : List Item). EndsBefore its a.from c.behind-next.result) c.deref.ensures.value c.behind-next.ensures in
    let there = item-at a.expr.now.items.items a.from c.index-item.result.now (omega (arith, lt, b.2)) c.index-item.ensures in
    let entered = each-entered a.expr.now a.from a.to a.around ts w.bound w.found.items x.0 lt c.behind-next.result ends x.1 in
    open-here a.expr.now a.from c.in-Open.close a.around (task.Each c.behind-next.result a.to a.around ∷ ts) w.bound w.found.items x.0 c.index-item.result.now there c.in-Open.is entered

pub enter-requires-clause-walk : goal.enter-requires-clause-walk
enter-requires-clause-walk c =
    let a = c.args in
    let w = a.self.now in
    let ts = reverse w.todo.items in
    let x = c.requires.walk in
    let lt : a.from < a.to = omega (arith, c.if-to-from.false) in
    let ends = subst (λ (its : List Item). EndsBefore its a.from c.behind-next.result) c.deref.ensures.value c.behind-next.ensures in
    let entered = each-entered a.expr.now a.from a.to a.around ts w.bound w.found.items x.0 lt c.behind-next.result ends x.1 in
    (x.0, subst (λ (us : List Task). IsAt a.expr.now a.from a.around us w.bound w.found.items x.0) (sym c.in_ok-leave.ensures) entered)

pub returns-in-Open-clause-next : goal.returns-in-Open-clause-next
returns-in-Open-clause-next c = λ given h.
    let a = c.args in
    let w = a.self.now in
    let ts = reverse w.todo.items in
    let lt : a.from < a.to = omega (arith, c.if-to-from.false) in
    let ends = subst (λ (its : List Item). EndsBefore its a.from c.behind-next.result) c.deref.ensures.value c.behind-next.ensures in
    let entered = each-entered a.expr.now a.from a.to a.around ts w.bound w.found.items given lt c.behind-next.result ends h in
    c.enter.ensures.next given (subst (λ (us : List Task). IsAt a.expr.now a.from a.around us w.bound w.found.items given) (sym c.in_ok-leave.ensures) entered)

pub returns-in-Open-clause-fewer : goal.returns-in-Open-clause-fewer
returns-in-Open-clause-fewer c =
    let a = c.args in
    let w = a.self.now in
    let ts = reverse w.todo.items in
    let x = c.requires.walk in
    let lt : a.from < a.to = omega (arith, c.if-to-from.false) in
    let b = each-begins a.expr.now a.from a.to a.around ts w.bound w.found.items x.0 lt x.1 in
    let ends = subst (λ (its : List Item). EndsBefore its a.from c.behind-next.result) c.deref.ensures.value c.behind-next.ensures in
    let there = item-at a.expr.now.items.items a.from c.index-item.result.now (omega (arith, lt, b.2)) c.index-item.ensures in
    let n = next-at a.expr.now.items.items a.expr.now.text.items a.from a.to b.0 b.1 lt c.behind-next.result ends in
    let last = ends-open a.expr.now.items.items a.from c.in-Open.close c.behind-next.result c.index-item.result.now there c.in-Open.is ends in
    let more : work (reverse c.leave.new.todo.items) ≡ 1 + 3 * (a.to - c.behind-next.result) + work ts = ap work c.in_ok-leave.ensures in
    ok-less c.enter.result (work (reverse c.enter.new.self.todo.items)) (work (reverse c.leave.new.todo.items) + 3 * (c.in-Open.close - a.from)) (1 + 3 * (a.to - a.from) + work ts) c.enter.ensures.few
    (omega (arith, more, last, n.5, n.6))

pub returns-in_default : goal.returns-in_default
returns-in_default c = record {
  next = λ given h.
      let a = c.args in
      let w = a.self.now in
      let ts = reverse w.todo.items in
      let lt : a.from < a.to = omega (arith, c.if-to-from.false) in
      let b = each-begins a.expr.now a.from a.to a.around ts w.bound w.found.items given lt h in
      let ends = subst (λ (its : List Item). EndsBefore its a.from c.behind-next.result) c.deref.ensures.value c.behind-next.ensures in
      let there = item-at a.expr.now.items.items a.from c.index-item.result.now (omega (arith, lt, b.2)) c.index-item.ensures in
      let us : List Task = task.Each c.behind-next.result a.to a.around ∷ ts in
      let entered = each-entered a.expr.now a.from a.to a.around ts w.bound w.found.items given lt c.behind-next.result ends h in
      let named = atom-named a.expr.now a.from a.around us w.bound w.found.items given c.index-item.result.now there c.in_default.not-Open entered in
      let name : name_in a.expr.now.text.items c.index-item.result.now ≡ option_map (λ (n : Bor (List ℕ)). n.now) c.name_in.result = ap (λ (t : List ℕ). name_in t c.index-item.result.now) (sym c.deref-in_default.ensures.value) ∙ sym c.name_in.ensures in
      c.test.ensures.next a.expr.now given
      (subst (λ (vs : List Task). IsAtName a.expr.now (option_map (λ (n : Bor (List ℕ)). n.now) c.name_in.result) a.around vs w.bound w.found.items given) (sym c.in_ok-leave.ensures)
      (subst (λ (o : Option (List ℕ)). IsAtName a.expr.now o a.around us w.bound w.found.items given) name named));
  fewer =
      let a = c.args in
      let w = a.self.now in
      let ts = reverse w.todo.items in
      let x = c.requires.walk in
      let lt : a.from < a.to = omega (arith, c.if-to-from.false) in
      let b = each-begins a.expr.now a.from a.to a.around ts w.bound w.found.items x.0 lt x.1 in
      let ends = subst (λ (its : List Item). EndsBefore its a.from c.behind-next.result) c.deref.ensures.value c.behind-next.ensures in
      let n = next-at a.expr.now.items.items a.expr.now.text.items a.from a.to b.0 b.1 lt c.behind-next.result ends in
      let more : work (reverse c.test.new.self.todo.items) ≡ 1 + 3 * (a.to - c.behind-next.result) + work ts = ap (λ (us : List Task). work (reverse us)) c.test.ensures.todo ∙ ap work c.in_ok-leave.ensures in
      ok-any c.test.result (omega (arith, more, n.5, n.6));
}
