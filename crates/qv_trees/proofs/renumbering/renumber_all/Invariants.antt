-- the places of the first terms
use Rattle.std.proofs.Common.{length, take}
use Rattle.std.specs.List.{AllZip}
use Rattle.qv_trees.specs.Places.{IsPlaceOf}
use Rattle.qv_trees.proofs.renumbering.renumber_all.Given as goal

abbrev pub invariant-kids : goal.invariant-kids
invariant-kids l = AllZip (IsPlaceOf l.walk (length l.copied)) (take l.kid-index l.kids) l.new.items
