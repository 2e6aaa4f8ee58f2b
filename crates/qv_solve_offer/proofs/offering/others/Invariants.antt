use Rattle.std.proofs.Common.{take}
use Rattle.qv_solve_offer.specs.Parts.{IsPart}
use Rattle.qv_solve_offer.proofs.offering.others.Given as goal

-- what is listed is a part of the names so far
abbrev pub invariant-items : goal.invariant-items
invariant-items l = IsPart l.places.items (take l.item l.named)
