use Rattle.std.proofs.Common.{ℕ, sym, subst}
use Rattle.qv_store.specs.Nodes.{tree_at}
use Rattle.qv_prenex_splits.specs.Memos.{IsWithin}
use Rattle.qv_prenex_splits.proofs.Keeping.{within-reach, within-push}
use Rattle.qv_prenex_splits.proofs.memo.reach_of_all.Goals as goal

pub kids-preserved : goal.kids-preserved
kids-preserved c = λ trees h.
    let own = subst (λ (r : ℕ). IsWithin r (tree_at trees c.kid-item.result)) (sym c.reach.ensures) (within-reach trees c.args.made.now c.kid-item.result h) in
    within-push trees c.args.kids.now c.kids.kid-index c.kid-item.result c.kids.reach c.greater-reach.result c.reach.result (c.kids.invariant trees h) own c.greater-reach.ensures.first c.greater-reach.ensures.second c.kids-test.true c.kid-item.is
