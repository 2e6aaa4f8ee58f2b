-- the links from here on are met
use Rattle.std.proofs.Common.{◌≤◌, length}
use Rattle.qv_game_links.specs.Thinning.{AreKept}
use Rattle.qv_game_links.proofs.thinning.kept_of.Given as goal

abbrev pub invariant-links : goal.invariant-links
invariant-links l = (l.left ≤ length l.links) × AreKept l.store l.known l.entries l.links l.left l.kept.items

abbrev pub decreases-links : goal.decreases-links
decreases-links l = l.left
