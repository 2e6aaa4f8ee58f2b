-- so many terms of the walk are copied
use Rattle.std.proofs.Common.{◌≡◌, take}
use Rattle.qv_store.specs.Walks.{named}
use Rattle.qv_trees.proofs.copying.copy_all.Given as goal

abbrev pub invariant-terms : goal.invariant-terms
invariant-terms l = l.copied ≡ take l.id-index (named l.store l.walk)
