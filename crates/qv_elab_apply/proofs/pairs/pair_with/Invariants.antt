-- the pairs so far
use Rattle.std.proofs.Common.{◌≡◌, ◌++◌, map, take}
use Rattle.qv_elab_apply.proofs.pairs.pair_with.Given as goal

abbrev pub invariant-others : goal.invariant-others
invariant-others l = l.pairs.items ≡ l.fn.pairs.items ++ map (λ other. (l.first, other)) (take l.other-index l.others)
