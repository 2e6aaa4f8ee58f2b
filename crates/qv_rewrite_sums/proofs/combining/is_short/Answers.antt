use Rattle.qv_rewrite_sums.proofs.Tests.{short-parts}
use Rattle.qv_rewrite_sums.proofs.combining.is_short.Goals as goal

pub returns-then-sum-le-MOST_PRODUCTS : goal.returns-then-sum-le-MOST_PRODUCTS
returns-then-sum-le-MOST_PRODUCTS c = λ trees. short-parts trees c.args.sum.now c.some_long.result c.if-sum-le-MOST_PRODUCTS.true c.some_long.ensures
