-- the products so far, and those that are left, make all
use Rattle.std.proofs.Common.{◌≡◌, ◌^◌, List, ◌++◌, drop}
use Rattle.qv_words.specs.Tree.{Tree}
use Rattle.qv_words.specs.Sums.{products}
use Rattle.qv_rewrite_sums.specs.Held.{sum_at, modulo}
use Rattle.qv_rewrite_sums.proofs.combining.products.Given as goal

abbrev pub invariant-products : goal.invariant-products
invariant-products l = (trees : List Tree) → sum_at trees l.raw.items ++ modulo (2 ^ l.width) (products (sum_at trees (drop l.one-index l.a)) (sum_at trees l.b)) ≡ modulo (2 ^ l.width) (products (sum_at trees l.a) (sum_at trees l.b))
