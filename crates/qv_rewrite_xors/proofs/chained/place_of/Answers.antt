use Rattle.std.proofs.Common.{rules, ◌≡◌, ◌==◌, ℕ, true, false, ap, sym, ◌∙◌}
use Rattle.qv_rewrite_sums.proofs.Lists.{place-found, place-more}
use Rattle.qv_rewrite_xors.proofs.chained.place_of.Goals as goal

pub returns-then-eq-clause-place : goal.returns-then-eq-clause-place
returns-then-eq-clause-place c =
    let x = c.index-ids-place.result in
    let is : (x == c.args.id) ≡ true = search rules in
    sym (place-found (λ (other : ℕ). other == c.args.id) c.args.ids.now c.places.place x c.places.invariant c.places-test.true (ap (λ (y : ℕ). y == c.args.id) (sym c.index-ids-place.is) ∙ is))

pub places-preserved : goal.places-preserved
places-preserved c =
    let x = c.index-ids-place.result in
    let is : (x == c.args.id) ≡ false = search rules in
    place-more (λ (other : ℕ). other == c.args.id) c.args.ids.now c.places.place x c.places.invariant c.places-test.true (ap (λ (y : ℕ). y == c.args.id) (sym c.index-ids-place.is) ∙ is)
