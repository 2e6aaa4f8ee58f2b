-- whether the coefficients so far make an odd number
use Rattle.std.proofs.Common.{◌≡◌, ◌+◌, ◌%◌, ◌<◌, List, fold, take}
use Rattle.qv_words.specs.Tree.{Tree}
use Rattle.qv_rewrite_sums.specs.Held.{sum_at}
use Rattle.qv_rewrite_sums.proofs.zero.total_is_odd.Given as goal

abbrev pub invariant-products : goal.invariant-products
invariant-products l = record {
  total : (trees : List Tree) → l.odd ≡ fold (λ n m. n + m.coefficient) 0 (sum_at trees (take l.one-index l.sum)) % 2;
  small : l.odd < 2;
}
