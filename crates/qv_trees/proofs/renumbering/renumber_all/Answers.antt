use Rattle.std.proofs.Common.{length, subst, sym, take, ◌+◌}
use Rattle.std.specs.List.{AllZip}
use Rattle.qv_trees.specs.Places.{IsPlaceOf}
use Rattle.qv_trees.proofs.Placing.{place-push}
use Rattle.qv_trees.proofs.renumbering.renumber_all.Goals as goal

pub kids-preserved : goal.kids-preserved
kids-preserved c =
    subst (λ new. AllZip (IsPlaceOf c.args.walk.now (length c.args.copied.now)) (take (c.kids.kid-index + 1) c.args.kids.now) new) (sym c.in_ok-push.ensures.ok)
    (place-push c.args.walk.now (length c.args.copied.now) c.args.kids.now c.kids.new.items c.kids.kid-index c.kid-item.result c.place_of.result c.kids.invariant c.kids-test.true c.kid-item.is c.place_of.ensures)
