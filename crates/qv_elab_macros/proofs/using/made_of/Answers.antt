use Rattle.std.proofs.Common.{subst, sym, take, ◌+◌}
use Rattle.std.specs.List.{AllZip}
use Rattle.qv_store.specs.Walks.{IsFound}
use Rattle.qv_store.proofs.Replacement.{found-push}
use Rattle.qv_elab_macros.proofs.using.made_of.Goals as goal

pub kids-preserved : goal.kids-preserved
kids-preserved c =
    subst (λ new. AllZip (IsFound c.args.walk.now c.args.made.now) (take (c.kids.kid-index + 1) c.args.kids.now) new) (sym c.in_ok-push.ensures.ok)
    (found-push c.args.walk.now c.args.made.now c.args.kids.now c.kids.new.items c.kids.kid-index c.kid-item.result c.result_of.result.now c.kids.invariant c.kids-test.true c.kid-item.is c.result_of.ensures)
