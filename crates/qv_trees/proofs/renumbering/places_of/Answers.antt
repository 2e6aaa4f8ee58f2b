use Rattle.std.proofs.Common.{length, subst, sym, take, ◌+◌}
use Rattle.std.specs.List.{AllZip}
use Rattle.qv_trees.specs.Places.{IsPlaceOf}
use Rattle.qv_trees.proofs.Placing.{place-push}
use Rattle.qv_trees.proofs.renumbering.places_of.Goals as goal

pub terms-preserved : goal.terms-preserved
terms-preserved c =
    subst (λ new. AllZip (IsPlaceOf c.args.walk.now (length c.args.copied.now)) (take (c.terms.id-index + 1) c.args.ids.now) new) (sym c.in_ok-push.ensures.items)
    (place-push c.args.walk.now (length c.args.copied.now) c.args.ids.now c.terms.new.items c.terms.id-index c.id-item.result c.place_of.result c.terms.invariant c.terms-test.true c.id-item.is c.place_of.ensures)
