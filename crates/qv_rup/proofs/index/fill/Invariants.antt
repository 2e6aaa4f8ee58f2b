use Rattle.std.proofs.Common.{◌<◌, length}
use Rattle.qv_rup.proofs.index.fill.Given as goal

abbrev pub invariant-more : goal.invariant-more
invariant-more l = 0 < length l.lists.items
