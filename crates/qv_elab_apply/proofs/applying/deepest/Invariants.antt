-- the deepest of the first terms
use Rattle.std.proofs.Common.{◌≡◌, max, drop}
use Rattle.qv_store.specs.Walks.{named}
use Rattle.qv_elab_defs.specs.Applying.{in_trees, depth_of_all}
use Rattle.qv_elab_apply.proofs.applying.deepest.Given as goal

abbrev pub invariant-kids : goal.invariant-kids
invariant-kids l = depth_of_all (in_trees (named l.store l.kids)) ≡ max l.depth (depth_of_all (in_trees (named l.store (drop l.kid-index l.kids))))
