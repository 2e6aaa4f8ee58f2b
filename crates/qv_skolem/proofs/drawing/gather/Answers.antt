use Rattle.std.proofs.Common.{◌≡◌, ◌<◌, ◌++◌, List, [], ◌∷◌, length, sym, ap, ◌∙◌, subst}
use Rattle.std.specs.Prelude.{All}
use Rattle.qv_skolem.specs.declared.skolem.Skolem.{Skolem}
use Rattle.qv_skolem.specs.Skolems.{skolems_in}
use Rattle.qv_skolem.proofs.Slots.{all-pushed, held, next-none, next-some}
use Rattle.qv_skolem.proofs.drawing.gather.Goals as goal
use Rattle.qv_skolem.proofs.drawing.gather.Goals.{in-Some+in_ok-push, in_default}

pub slots-preserved : goal.slots-preserved
slots-preserved c =
    let slots = c.args.slots.now in
    let place = c.slots.place in
    elim c.match-slot.branch [
      | in-Some+in_ok-push w ↦
          let now : c.match-slot.drawn.items ≡ c.slots.drawn.items ++ record { place = place; term = w.in-Some.term } ∷ [] = ap (λ v. v.items) w.drawn-is ∙ w.in_ok-push.ensures.items in
          record {
            there = λ trees there.
                subst (All (λ (s : Skolem). s.term < length trees)) (sym now)
                (all-pushed trees c.slots.drawn.items place w.in-Some.term (c.slots.invariant.there trees there) (there place w.in-Some.term (held slots place w.in-Some.term c.index-slots-place.result c.slots-test.true c.index-slots-place.is w.in-Some.is)));
            terms = λ trees.
                ap (λ (v : List Skolem). skolems_in trees v) now
                ∙ next-some slots place w.in-Some.term c.index-slots-place.result c.slots.drawn.items c.slots-test.true c.index-slots-place.is w.in-Some.is c.slots.invariant.terms trees;
          }
      | in_default w ↦
          let now : c.match-slot.drawn.items ≡ c.slots.drawn.items = ap (λ v. v.items) w.drawn-is in
          record {
            there = λ trees there. subst (All (λ (s : Skolem). s.term < length trees)) (sym now) (c.slots.invariant.there trees there);
            terms = λ trees.
                ap (λ (v : List Skolem). skolems_in trees v) now
                ∙ next-none slots place c.index-slots-place.result c.slots.drawn.items c.slots-test.true c.index-slots-place.is w.in_default.is c.slots.invariant.terms trees;
          }
    ]
