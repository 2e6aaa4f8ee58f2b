use Rattle.std.proofs.Common.{◌≡◌, ◌+◌, ◌++◌, ◌∷◌, [], ℕ, List, take, get_or, refl}
use Rattle.std.proofs.lemmas.List.{take_more}
use Rattle.qv_solve_offer.proofs.Parts.{part-passes, part-takes}
use Rattle.qv_solve_offer.proofs.offering.others.Goals as goal
use Rattle.qv_solve_offer.proofs.offering.others.Goals.{then-not-takes+in_ok-push, else-not-takes}

pub items-init : goal.items-init
items-init c = c.new-places.ensures.items

pub items-preserved : goal.items-preserved
items-preserved c =
    let named : List ℕ = c.args.named.now in
    let n : ℕ = c.items.item in
    let more : take (n + 1) named ≡ take n named ++ get_or named n 0 ∷ [] = take_more named n 0 c.items-test.true in
    elim c.if-not-takes.branch [
      | then-not-takes+in_ok-push w ↦
          let pushed : c.if-not-takes.places.items ≡ c.items.places.items ++ get_or named n 0 ∷ [] = rw w.places-is w.in_ok-push.ensures.items in
          rw pushed (rw more (part-takes c.items.places.items (take n named) (get_or named n 0) c.items.invariant))
      | else-not-takes w ↦
          let same : c.if-not-takes.places.items ≡ c.items.places.items = rw w.places-is refl in
          rw same (rw more (part-passes c.items.places.items (take n named) (get_or named n 0) c.items.invariant))
    ]
