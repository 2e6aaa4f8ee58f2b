-- the pairs so far, and those that are left
use Rattle.std.proofs.Common.{◌≡◌, ◌++◌, length}
use Rattle.qv_elab_apply.specs.Chained.{pairs_in}
use Rattle.qv_elab_apply.proofs.pairs.all_pairs.Given as goal

abbrev pub invariant-ids : goal.invariant-ids
invariant-ids l = pairs_in l.fn.ids ≡ l.pairs.items ++ pairs_in l.left

abbrev pub decreases-ids : goal.decreases-ids
decreases-ids l = length l.left
