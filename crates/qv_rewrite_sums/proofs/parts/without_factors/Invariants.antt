-- the part so far, and that of what is left
use Rattle.std.proofs.Common.{◌≡◌, List, ◌++◌, drop, not}
use Rattle.std.specs.Prelude.{filter}
use Rattle.qv_words.specs.Tree.{Tree}
use Rattle.qv_words.specs.Sums.{has_factors}
use Rattle.qv_rewrite_sums.specs.Held.{sum_at}
use Rattle.qv_rewrite_sums.proofs.parts.without_factors.Given as goal

abbrev pub invariant-products : goal.invariant-products
invariant-products l = (trees : List Tree) → sum_at trees l.part.items ++ filter (λ m. not (has_factors m)) (sum_at trees (drop l.one-index l.sum)) ≡ filter (λ m. not (has_factors m)) (sum_at trees l.sum)
