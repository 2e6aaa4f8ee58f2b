use Rattle.std.proofs.Common.{take}
use Rattle.qv_rup.specs.Shelving.{IsGathered, picked}
use Rattle.qv_rup.proofs.shelf.gather.Given as goal

-- the clauses of the ids so far
abbrev pub invariant-loop-id : goal.invariant-loop-id
invariant-loop-id l = IsGathered (picked (take l.id-index l.ids) l.from.live) l.list l.kept.items
