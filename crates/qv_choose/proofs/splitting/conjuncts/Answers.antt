use Rattle.std.proofs.Common.{ℕ, List, subst, sym}
use Rattle.qv_store.specs.Nodes.{tree_at}
use Rattle.qv_store.specs.Walks.{named}
use Rattle.qv_store.proofs.Replacement.{if-ok}
use Rattle.qv_choose.specs.Conjuncts.{AreConjuncts, alone}
use Rattle.qv_choose.proofs.splitting.conjuncts.Goals as goal

pub returns-else-branch-clause-conjuncts : goal.returns-else-branch-clause-conjuncts
returns-else-branch-clause-conjuncts c =
    let trees = c.args.store.now in
    if-ok c.only.result
    (λ ids e. subst (λ (ns : List ℕ). AreConjuncts (tree_at trees c.args.region) (named trees ns)) (sym e) (alone (tree_at trees c.args.region)))
    c.only.ensures
