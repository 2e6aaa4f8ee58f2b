use Rattle.std.proofs.Common.{◌≡◌, ◌<◌, ◌≤◌, ◌+◌, ◌-◌, ◌*◌, ℕ, Option, List, length, reverse, sym, ap, subst, arith}
use Rattle.std.proofs.lemmas.Option.{slice_get_within}
use Rattle.qv_sexpr.specs.declared.items.Item.{Item}
use Rattle.qv_sexpr.specs.Items.{StandAll}
use Rattle.qv_sexpr.proofs.Standing.{stands_lt, stand_all_le}
use Rattle.qv_elab_defs.specs.Shapes.{Quantified}
use Rattle.qv_elab_items.specs.Inside.{IsBinding, IsBoundBy}
use Rattle.qv_script_parts.specs.declared.labels.Task.{Task}
use Rattle.qv_script_parts.specs.Walking.{IsOpen, work}
use Rattle.qv_script_parts.proofs.Walks.{within-bounds, no-quantifier, quantifier-bound}
use Rattle.qv_script_parts.proofs.labels.Walk.binders.Goals as goal

pub binding-requires-clause-within : goal.binding-requires-clause-within
binding-requires-clause-within c =
    let a = c.args in
    let w = a.self.now in
    let ts = reverse w.todo.items in
    let given = c.requires.walk.0 in
    let q = c.requires.walk.1.0 in
    let h = c.requires.walk.1.1 in
    let b = within-bounds a.expr.now a.at a.list a.close a.around ts w.bound w.found.items given (Quantified q) h in
    (b.1, subst (λ (its : List Item). a.close < length its) (sym c.deref-2.ensures.value) b.2)

pub returns-in_default-clause-next : goal.returns-in_default-clause-next
returns-in_default-clause-next c = λ given q h.
    let a = c.args in
    let w = a.self.now in
    let ts = reverse w.todo.items in
    let here = subst (λ (its : List Item). StandAll its c.deref.result.now a.list h.rest a.close) (sym c.deref-2.ensures.value)
    (subst (λ (t : List ℕ). StandAll a.expr.now.items.items t a.list h.rest a.close) (sym c.deref.ensures.value) h.rest_stand) in
    no-quantifier a.expr.now a.at a.list a.close a.around ts w.bound w.found.items given q h
    (subst (λ (o : Option ℕ). IsBinding c.deref-2.result.now c.deref.result.now a.list h.rest a.close o) c.in_default.is (c.binding.ensures h.rest here))

pub overflow_add-end : goal.overflow_add-end
overflow_add-end c =
    let a = c.args in
    let w = a.self.now in
    let ts = reverse w.todo.items in
    let given = c.requires.walk.0 in
    let q = c.requires.walk.1.0 in
    let h = c.requires.walk.1.1 in
    let here = subst (λ (its : List Item). StandAll its c.deref.result.now a.list h.rest a.close) (sym c.deref-2.ensures.value)
    (subst (λ (t : List ℕ). StandAll a.expr.now.items.items t a.list h.rest a.close) (sym c.deref.ensures.value) h.rest_stand) in
    let told = subst (λ (o : Option ℕ). IsBinding c.deref-2.result.now c.deref.result.now a.list h.rest a.close o) c.in-Some.is (c.binding.ensures h.rest here) in
    let by = subst (λ (its : List Item). IsBoundBy its a.expr.now.text.items a.list h.rest a.close c.in-Some.end) c.deref-2.ensures.value
    (subst (λ (t : List ℕ). IsBoundBy c.deref-2.result.now t a.list h.rest a.close c.in-Some.end) c.deref.ensures.value told) in
    let inside = slice_get_within a.expr.now.items.items c.in-Some.end _ by.closed.1 in
    omega (arith, inside, a.expr.now.items.small, a.expr.now.items.ok.0, a.expr.now.items.ok.1)

pub returns-clause-next : goal.returns-clause-next
returns-clause-next c = λ given q h.
    let a = c.args in
    let w = a.self.now in
    let ts = reverse w.todo.items in
    let b = within-bounds a.expr.now a.at a.list a.close a.around ts w.bound w.found.items given (Quantified q) h in
    let here = subst (λ (its : List Item). StandAll its c.deref.result.now a.list h.rest a.close) (sym c.deref-2.ensures.value)
    (subst (λ (t : List ℕ). StandAll a.expr.now.items.items t a.list h.rest a.close) (sym c.deref.ensures.value) h.rest_stand) in
    let told = subst (λ (o : Option ℕ). IsBinding c.deref-2.result.now c.deref.result.now a.list h.rest a.close o) c.in-Some.is (c.binding.ensures h.rest here) in
    let by = subst (λ (its : List Item). IsBoundBy its a.expr.now.text.items a.list h.rest a.close c.in-Some.end) c.deref-2.ensures.value
    (subst (λ (t : List ℕ). IsBoundBy c.deref-2.result.now t a.list h.rest a.close c.in-Some.end) c.deref.ensures.value told) in
    let inside = slice_get_within a.expr.now.items.items c.in-Some.end _ by.closed.1 in
    let le : a.close ≤ length a.expr.now.items.items = omega (arith, b.2) in
    subst (λ (us : List Task). IsOpen a.expr.now us w.bound w.found.items given) (sym c.in_ok-leave.ensures)
    (quantifier-bound a.expr.now a.at a.list a.close a.around ts w.bound w.found.items given le q h c.in-Some.end by)

pub returns-clause-few : goal.returns-clause-few
returns-clause-few c =
    let a = c.args in
    let w = a.self.now in
    let ts = reverse w.todo.items in
    let given = c.requires.walk.0 in
    let q = c.requires.walk.1.0 in
    let h = c.requires.walk.1.1 in
    let b = within-bounds a.expr.now a.at a.list a.close a.around ts w.bound w.found.items given (Quantified q) h in
    let here = subst (λ (its : List Item). StandAll its c.deref.result.now a.list h.rest a.close) (sym c.deref-2.ensures.value)
    (subst (λ (t : List ℕ). StandAll a.expr.now.items.items t a.list h.rest a.close) (sym c.deref.ensures.value) h.rest_stand) in
    let told = subst (λ (o : Option ℕ). IsBinding c.deref-2.result.now c.deref.result.now a.list h.rest a.close o) c.in-Some.is (c.binding.ensures h.rest here) in
    let by = subst (λ (its : List Item). IsBoundBy its a.expr.now.text.items a.list h.rest a.close c.in-Some.end) c.deref-2.ensures.value
    (subst (λ (t : List ℕ). IsBoundBy c.deref-2.result.now t a.list h.rest a.close c.in-Some.end) c.deref.ensures.value told) in
    let inside = slice_get_within a.expr.now.items.items c.in-Some.end _ by.closed.1 in
    let up = stand_all_le a.expr.now.items.items a.expr.now.text.items (a.list + 1) by.pairs c.in-Some.end by.stand in
    let more : work (reverse c.leave.new.todo.items) ≡ 2 + 3 * (a.close - (c.in-Some.end + 1)) + work ts = ap work c.in_ok-leave.ensures in
    let body = stands_lt a.expr.now.items.items a.expr.now.text.items (c.in-Some.end + 1) by.body a.close by.body_stands in
    omega (arith, more, b.0, b.1, up, body)
