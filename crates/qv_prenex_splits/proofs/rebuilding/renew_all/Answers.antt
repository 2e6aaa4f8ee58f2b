use Rattle.std.proofs.Common.{take, ◌+◌, sym, subst, ◌∙◌}
use Rattle.qv_prenex_splits.specs.Rebuilding.{AreMadeOf}
use Rattle.qv_prenex_splits.proofs.Changing.{made-push}
use Rattle.qv_prenex_splits.proofs.rebuilding.renew_all.Goals as goal

pub kids-preserved : goal.kids-preserved
kids-preserved c =
    subst (λ new. AreMadeOf c.args.made.now (take (c.kids.kid-index + 1) c.args.kids.now) new) (sym c.in_ok-push-in-Some.ensures.ok)
    (made-push c.args.made.now c.args.kids.now c.kids.new.items c.kids.kid-index c.kid-item.result c.in-Some.id c.kids.invariant c.kids-test.true c.kid-item.is (sym c.get.ensures ∙ c.in-Some.is))
