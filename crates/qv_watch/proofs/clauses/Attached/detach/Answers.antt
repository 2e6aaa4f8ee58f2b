use Rattle.std.proofs.Common.{◌≡◌, false, refl, sym, ◌∙◌, ap, arith}
use Rattle.std.proofs.lemmas.Option.{same_Some, slice_get_read, slice_get_within}
use Rattle.qv_watch.specs.Attaching.{let_go}
use Rattle.qv_watch.specs.Storing.{HoldsId, LacksId}
use Rattle.qv_watch.specs.declared.clauses.Slot.{Slot}
use Rattle.qv_watch.proofs.Storing.{let_go-at, let_go-none, IsStored-let_go}
use Rattle.qv_watch.proofs.clauses.Attached.detach.Goals as goal
use Rattle.qv_watch.proofs.clauses.Attached.detach.Goals.{After-index_mut-slot}

holds : (c : After-index_mut-slot) → HoldsId c.self.inside.slots.items c.args.id c.in-Some.place
holds c = rw c.deref.ensures.value at c.in-Some.ensures.some

-- what was read is what stood there
same : (c : After-index_mut-slot) → (holds c).0 ≡ c.index_mut-slot.result.now
same c =
    let old = c.self.inside in
    let h = holds c in
    let low = slice_get_within old.slots.items c.in-Some.place h.0 h.1 in
    same_Some h.0 c.index_mut-slot.result.now (sym h.1 ∙ slice_get_read old.slots.items old.slots.len c.in-Some.place c.index_mut-slot.result.now (omega (arith, old.slots.ok.0)) (omega (arith, old.slots.ok.0)) c.index_mut-slot.ensures.value)

abbrev dead : After-index_mut-slot → Slot
dead c = record { id = c.index_mut-slot.result.now.id; start = 1; end = 0 }

pub invariant_of-self : goal.invariant_of-self
invariant_of-self c =
    let old = c.self.inside in
    let d = (goal.at.invariant_of-self c).After-index_mut-slot in
    let h = holds d in
    IsStored-let_go old.lits.items old.slots.items old.places c.in-Some.place h.0 (dead d) c.self.invariant h.1 (ap (λ (s : Slot). s.id) (sym (same d))) refl refl

pub returns-in-Some : goal.returns-in-Some
returns-in-Some c =
    let old = c.self.inside in
    let d = (goal.at.returns-in-Some c).After-index_mut-slot in
    let h = holds d in
    let_go-at old.lits.items old.slots.items c.args.id c.in-Some.place h.0 (dead d) c.self.invariant.once h.1 h.2 h.3 (ap (λ (s : Slot). s.id) (sym (same d)) ∙ h.3) refl ∙ ap (let_go c.args.id) c.self.view_is

pub returns-in_default : goal.returns-in_default
returns-in_default c =
    let old = c.self.inside in
    let lacks : LacksId old.slots.items c.args.id = rw c.deref.ensures.value at c.in_default.ensures.none in
    sym c.self.view_is ∙ let_go-none old.lits.items old.slots.items c.args.id lacks ∙ ap (let_go c.args.id) c.self.view_is
