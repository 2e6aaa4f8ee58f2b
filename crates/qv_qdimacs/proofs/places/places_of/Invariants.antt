-- the places so far
use Rattle.std.proofs.Common.{take}
use Rattle.qv_qdimacs.specs.Leaves.{ArePlaces}
use Rattle.qv_qdimacs.proofs.places.places_of.Given as goal

abbrev pub invariant-variables : goal.invariant-variables
invariant-variables l = ArePlaces (take l.place l.variables) l.places
