use Rattle.std.proofs.Common.{List, sym, subst}
use Rattle.qv_store.specs.Nodes.{tree_at}
use Rattle.qv_rewrite_sums.specs.declared.product.Product.{Product}
use Rattle.qv_rewrite_sums.specs.Held.{IsSumOf}
use Rattle.qv_rewrite_sums.proofs.Found.{sum-found}
use Rattle.qv_rewrite_sums.proofs.summing.sum_of.Goals as goal

pub returns : goal.returns
returns c =
    subst (λ (p : List Product). IsSumOf c.args.store.now (tree_at c.args.store.now c.args.id) p) (sym c.deref.ensures.value)
    (sum-found c.args.store.now (tree_at c.args.store.now) c.args.walk.now c.args.sums.now c.args.id c.result_of.result.now c.requires.found c.result_of.ensures)
