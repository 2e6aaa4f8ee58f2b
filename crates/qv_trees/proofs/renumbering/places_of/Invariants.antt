-- the places of the first terms
use Rattle.std.proofs.Common.{length, take}
use Rattle.std.specs.List.{AllZip}
use Rattle.qv_trees.specs.Places.{IsPlaceOf}
use Rattle.qv_trees.proofs.renumbering.places_of.Given as goal

abbrev pub invariant-terms : goal.invariant-terms
invariant-terms l = AllZip (IsPlaceOf l.walk (length l.copied)) (take l.id-index l.ids) l.new.items
