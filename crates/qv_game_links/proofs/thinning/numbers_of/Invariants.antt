-- the numbers of the links so far
use Rattle.std.proofs.Common.{◌≡◌, map, take}
use Rattle.qv_game_links.proofs.thinning.numbers_of.Given as goal

abbrev pub invariant-kept : goal.invariant-kept
invariant-kept l = l.numbers.items ≡ map (λ k. k.number) (take l.link-index l.kept)
