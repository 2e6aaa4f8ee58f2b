-- the products so far, and those that are left, make those of the whole sum
use Rattle.std.proofs.Common.{◌≡◌, ◌^◌, List, ◌++◌, drop, map}
use Rattle.qv_words.specs.Tree.{Tree}
use Rattle.qv_words.specs.Sums.{times}
use Rattle.qv_rewrite_sums.specs.Held.{monomial_at, sum_at, modulo}
use Rattle.qv_rewrite_sums.proofs.combining.push_times.Given as goal

abbrev pub invariant-products : goal.invariant-products
invariant-products l = (trees : List Tree) → sum_at trees l.raw.items ++ modulo (2 ^ l.width) (map (times (monomial_at trees l.factor)) (sum_at trees (drop l.one-index l.sum))) ≡ sum_at trees l.fn.raw.items ++ modulo (2 ^ l.width) (map (times (monomial_at trees l.factor)) (sum_at trees l.sum))
