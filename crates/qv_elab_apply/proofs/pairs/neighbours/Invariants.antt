-- the pairs so far, and those that are left
use Rattle.std.proofs.Common.{◌≡◌, ◌++◌, drop}
use Rattle.qv_elab_apply.specs.Chained.{neighbours_in}
use Rattle.qv_elab_apply.proofs.pairs.neighbours.Given as goal

abbrev pub invariant-others : goal.invariant-others
invariant-others l = neighbours_in l.fn.first l.others ≡ l.pairs.items ++ neighbours_in l.before (drop l.other-index l.others)
