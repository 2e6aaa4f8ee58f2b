-- no more than the terms so far
use Rattle.std.proofs.Common.{◌≤◌}
use Rattle.qv_rewrite_lists.proofs.measuring.count_products.Given as goal

abbrev pub invariant-terms : goal.invariant-terms
invariant-terms l = l.count ≤ l.id-index
