use Rattle.std.proofs.Common.{take}
use Rattle.qv_rup.specs.Indexing.{IsIndex}
use Rattle.qv_rup.specs.Shelving.{picked}
use Rattle.qv_rup.proofs.shelf.file_all.Given as goal

-- the clauses of the ids so far
abbrev pub invariant-filing : goal.invariant-filing
invariant-filing l = IsIndex l.index.lists.items (picked (take l.id-index l.ids) l.from.live)
