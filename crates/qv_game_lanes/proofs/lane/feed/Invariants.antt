use Rattle.qv_cnf.specs.Listing.{clauses_of}
use Rattle.qv_game_lanes.proofs.Feeding.{Fed}
use Rattle.qv_game_lanes.proofs.lane.feed.Given as goal

abbrev pub invariant-clauses : goal.invariant-clauses
invariant-clauses l = Fed l.fn.core l.core (clauses_of l.clauses.live) l.top l.last l.fn.added.first l.id
