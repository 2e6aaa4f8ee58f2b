-- the terms so far
use Rattle.std.proofs.Common.{◌≡◌, take}
use Rattle.qv_game_regions.specs.Slots.{slots_from}
use Rattle.qv_game_regions.proofs.taking.slots.Given as goal

abbrev pub invariant-terms : goal.invariant-terms
invariant-terms l = l.slots.items ≡ slots_from l.first (take l.term-index l.terms)
