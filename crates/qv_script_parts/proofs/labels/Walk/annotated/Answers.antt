use Rattle.std.proofs.Common.{◌≡◌, ◌<◌, ◌≤◌, ◌+◌, ◌-◌, ◌*◌, ◌∷◌, ℕ, Option, List, Bor, length, reverse, refl, sym, ap, subst, ◌∙◌, arith}
use Rattle.std.specs.Prelude.{option_map}
use Rattle.qv_sexpr.specs.declared.items.Item.{Item}
use Rattle.qv_sexpr.specs.declared.items.ItemKind.TheVariants.{Open}
use Rattle.qv_sexpr.specs.Script.{list, also}
use Rattle.qv_sexpr.specs.Copying.{EndsBefore}
use Rattle.qv_elab_defs.specs.Shapes.{Annotated}
use Rattle.qv_elab_items.proofs.Attributed.{next-before, next-at}
use Rattle.qv_elab_items.proofs.Pairing.{some-item}
use Rattle.qv_elab_items.proofs.Slices.{paren_of, read-item}
use Rattle.qv_script_defs.specs.Parts.{Asserted, asserted_of}
use Rattle.qv_script_parts.specs.declared.labels.Around.{Around as Told}
use Rattle.qv_script_parts.specs.declared.labels.Task.{Task}
use Rattle.qv_script_parts.specs.declared.labels.Task.TheVariants as task
use Rattle.qv_script_parts.specs.Parted.{IsAsserted}
use Rattle.qv_script_parts.specs.Walking.{IsOpen, work}
use Rattle.qv_script_parts.proofs.Walks.{bare-annotated, whole, within-bounds, annotated-unnamed, annotated-named}
use Rattle.qv_script_parts.proofs.labels.Walk.annotated.Goals as goal

pub returns-then-close-second-clause-next : goal.returns-then-close-second-clause-next
returns-then-close-second-clause-next c = λ given h.
    let a = c.args in
    bare-annotated a.expr.now a.at a.second a.close a.around (reverse a.self.now.todo.items) a.self.now.bound a.self.now.found.items given (omega (arith, c.if-close-second.true)) h

pub behind-to-requires : goal.behind-to-requires
behind-to-requires c =
    let a = c.args in
    let h = c.requires.walk.1 in
    let lt : a.second < a.close = omega (arith, c.if-close-second.false) in
    subst (λ (its : List Item). (to : ℕ) × (to ≤ length its) × (a.second < to) × EndsBefore its a.second to) (sym c.deref.ensures.value)
    (next-before a.expr.now.items.items a.expr.now.text.items a.second a.close h.rest h.rest_stand lt)

pub returns-in_default-clause-next : goal.returns-in_default-clause-next
returns-in_default-clause-next c = λ given h.
    let a = c.args in
    let w = a.self.now in
    let ts = reverse w.todo.items in
    let lt : a.second < a.close = omega (arith, c.if-close-second.false) in
    let ends = subst (λ (its : List Item). EndsBefore its a.second c.behind-to.result) c.deref.ensures.value c.behind-to.ensures in
    let n = next-at a.expr.now.items.items a.expr.now.text.items a.second a.close h.rest h.rest_stand lt c.behind-to.result ends in
    let b = within-bounds a.expr.now a.at a.second a.close a.around ts w.bound w.found.items given Annotated h in
    let le : c.behind-to.result ≤ length a.expr.now.items.items = omega (arith, n.6, b.2) in
    let e = list h.place (also h.first h.rest) h.close_place in
    let told = subst (λ (o : Option (ℕ × Bor (List ℕ))). IsAsserted a.expr.now.items.items a.expr.now.text.items e (asserted_of e) (option_map (λ (x : ℕ × Bor (List ℕ)). (x.0, x.1.now)) o)) c.in_default.is
    (c.asserted_at.ensures e (whole a.expr.now a.at a.second a.close a.around ts w.bound w.found.items given h)) in
    subst (λ (us : List Task). IsOpen a.expr.now us w.bound w.found.items given) (sym c.in_ok-leave.ensures)
    (annotated-unnamed a.expr.now a.at a.second a.close a.around ts w.bound w.found.items given h c.behind-to.result n.0 n.1 n.2 n.3 le (ap (λ (x : Asserted). x.name) told))

pub returns-in_default-clause-few : goal.returns-in_default-clause-few
returns-in_default-clause-few c =
    let a = c.args in
    let w = a.self.now in
    let ts = reverse w.todo.items in
    let x = c.requires.walk in
    let lt : a.second < a.close = omega (arith, c.if-close-second.false) in
    let ends = subst (λ (its : List Item). EndsBefore its a.second c.behind-to.result) c.deref.ensures.value c.behind-to.ensures in
    let n = next-at a.expr.now.items.items a.expr.now.text.items a.second a.close x.1.rest x.1.rest_stand lt c.behind-to.result ends in
    let b = within-bounds a.expr.now a.at a.second a.close a.around ts w.bound w.found.items x.0 Annotated x.1 in
    let more : work (reverse c.leave.new.todo.items) ≡ 1 + 3 * (c.behind-to.result - a.second) + work ts = ap work c.in_ok-leave.ensures in
    omega (arith, more, b.0, n.5, n.6, lt)

pub index-requires : goal.index-requires
index-requires c =
    let a = c.args in
    let w = a.self.now in
    let x = c.requires.walk in
    let b = within-bounds a.expr.now a.at a.second a.close a.around (reverse w.todo.items) w.bound w.found.items x.0 Annotated x.1 in
    omega (arith, b.3, a.expr.now.items.ok.0)

pub returns-clause-next : goal.returns-clause-next
returns-clause-next c = λ given h.
    let a = c.args in
    let w = a.self.now in
    let ts = reverse w.todo.items in
    let lt : a.second < a.close = omega (arith, c.if-close-second.false) in
    let ends = subst (λ (its : List Item). EndsBefore its a.second c.behind-to.result) c.deref.ensures.value c.behind-to.ensures in
    let n = next-at a.expr.now.items.items a.expr.now.text.items a.second a.close h.rest h.rest_stand lt c.behind-to.result ends in
    let b = within-bounds a.expr.now a.at a.second a.close a.around ts w.bound w.found.items given Annotated h in
    let le : c.behind-to.result ≤ length a.expr.now.items.items = omega (arith, n.6, b.2) in
    let e = list h.place (also h.first h.rest) h.close_place in
    let told = subst (λ (o : Option (ℕ × Bor (List ℕ))). IsAsserted a.expr.now.items.items a.expr.now.text.items e (asserted_of e) (option_map (λ (x : ℕ × Bor (List ℕ)). (x.0, x.1.now)) o)) c.in-Some.is
    (c.asserted_at.ensures e (whole a.expr.now a.at a.second a.close a.around ts w.bound w.found.items given h)) in
    let inner : Told = record { bound = a.around.bound; outside = a.around.bound; place = c.index.result.now.place } in
    let there = read-item a.expr.now.items.items a.at (paren_of (Open a.close) h.place h.opens.0) c.index.result.now h.opens.1 c.index.ensures in
    let same : paren_of (Open a.close) h.place h.opens.0 ≡ c.index.result.now = some-item (paren_of (Open a.close) h.place h.opens.0) c.index.result.now (sym h.opens.1 ∙ there) in
    subst (λ (us : List Task). IsOpen a.expr.now us w.bound w.found.items given) (sym (c.in_ok-leave-3.ensures ∙ ap (λ (us : List Task). task.Each a.second c.behind-to.result inner ∷ us) c.in_ok-leave-2.ensures))
    (annotated-named a.expr.now a.at a.second a.close a.around ts w.bound w.found.items given h c.behind-to.result n.0 n.1 n.2 n.3 le inner refl refl (ap (λ (y : Item). y.place) (sym same)) c.in-Some.field-0.1.now told.0)

pub returns-clause-few : goal.returns-clause-few
returns-clause-few c =
    let a = c.args in
    let w = a.self.now in
    let ts = reverse w.todo.items in
    let x = c.requires.walk in
    let lt : a.second < a.close = omega (arith, c.if-close-second.false) in
    let ends = subst (λ (its : List Item). EndsBefore its a.second c.behind-to.result) c.deref.ensures.value c.behind-to.ensures in
    let n = next-at a.expr.now.items.items a.expr.now.text.items a.second a.close x.1.rest x.1.rest_stand lt c.behind-to.result ends in
    let b = within-bounds a.expr.now a.at a.second a.close a.around ts w.bound w.found.items x.0 Annotated x.1 in
    let named : work (reverse c.leave-2.new.todo.items) ≡ 1 + work ts = ap work c.in_ok-leave-2.ensures in
    let more : work (reverse c.leave-3.new.todo.items) ≡ 1 + 3 * (c.behind-to.result - a.second) + work (reverse c.leave-2.new.todo.items) = ap work c.in_ok-leave-3.ensures in
    omega (arith, more, named, b.0, n.5, n.6, lt)
