use Rattle.std.proofs.Common.{◌∙◌}
use Rattle.qv_store.specs.Nodes.{tree_at}
use Rattle.qv_rewrite_sums.proofs.Ordered.{ranked}
use Rattle.qv_rewrite_sums.proofs.ordering.comes_before.Goals as goal

pub returns : goal.returns
returns c =
    c.is_less.ensures
    ∙ ranked (tree_at c.args.store.now c.args.a) (tree_at c.args.store.now c.args.b) c.rank-first.result.0 c.rank-second.result.0 c.rank-first.result.1 c.rank-second.result.1
    c.rank-first.ensures.class c.rank-first.ensures.number c.rank-second.ensures.class c.rank-second.ensures.number
