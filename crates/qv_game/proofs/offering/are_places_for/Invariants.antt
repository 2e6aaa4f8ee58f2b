use Rattle.std.proofs.Common.{take}
use Rattle.std.specs.List.{AllZip}
use Rattle.qv_game.specs.Offered.{IsPlaceFor}
use Rattle.qv_game.proofs.offering.are_places_for.Given as goal

-- so it is of the first places
abbrev pub invariant-places : goal.invariant-places
invariant-places l = AllZip IsPlaceFor (take l.number l.places) (take l.number l.words)
