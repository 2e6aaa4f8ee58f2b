use Rattle.std.proofs.Common.{◌≤◌, length}
use Rattle.qv_sat_order.specs.Tournament.{ArePlayedFrom, IsDrawn}
use Rattle.qv_sat_order.proofs.tournament.play.Given as goal

-- the places from here on were played
abbrev pub invariant-up : goal.invariant-up
invariant-up l = record {
  drawn : IsDrawn l.nodes l.held l.activity;
  played : ArePlayedFrom l.nodes l.held l.activity l.place;
  within : l.place ≤ length l.nodes;
}

abbrev pub decreases-up : goal.decreases-up
decreases-up l = l.place
