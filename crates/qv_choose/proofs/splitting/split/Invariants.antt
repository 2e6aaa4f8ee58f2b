-- with any conjuncts of what waits, the parts are conjuncts of the region
use Rattle.std.proofs.Common.{◌+◌, length, reverse}
use Rattle.qv_store.specs.Nodes.{tree_at}
use Rattle.qv_choose.specs.Splitting.{IsSplit}
use Rattle.qv_choose.proofs.splitting.split.Given as goal

abbrev pub invariant-waiting : goal.invariant-waiting
invariant-waiting l = IsSplit l.store (tree_at l.store l.fn.region) (reverse l.waiting.items) l.parts.items

abbrev pub decreases-waiting : goal.decreases-waiting
decreases-waiting l = l.left + l.left + length l.waiting.items
