-- children have smaller numbers, and those so far are grown
use Rattle.std.proofs.Common.{◌≡◌, take}
use Rattle.qv_terms.specs.View.{trees}
use Rattle.qv_store.specs.Nodes.{trees_at}
use Rattle.qv_trees.proofs.growing.+grow.Given as goal

abbrev pub decreases-grow : goal.decreases-grow
decreases-grow l = l.id

abbrev pub invariant-kids : goal.invariant-kids
invariant-kids l = trees l.grown.items ≡ trees_at l.store (take l.kid-index l.kid-items)
