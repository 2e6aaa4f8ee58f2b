-- the part so far, and that of what is left
use Rattle.std.proofs.Common.{◌≡◌, List, ◌++◌, drop}
use Rattle.qv_words.specs.Tree.{Tree}
use Rattle.qv_words.specs.Sums.{subtracted}
use Rattle.qv_rewrite_sums.specs.Held.{sum_at}
use Rattle.qv_rewrite_sums.proofs.parts.subtracted.Given as goal

abbrev pub invariant-products : goal.invariant-products
invariant-products l = (trees : List Tree) → sum_at trees l.part.items ++ subtracted l.width (sum_at trees (drop l.one-index l.sum)) ≡ subtracted l.width (sum_at trees l.sum)
