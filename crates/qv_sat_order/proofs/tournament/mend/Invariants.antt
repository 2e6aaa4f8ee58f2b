use Rattle.std.proofs.Common.{◌*◌, ◌/◌, ◌<◌, length}
use Rattle.qv_sat_order.specs.Tournament.{ArePlayedBut, IsDrawn}
use Rattle.qv_sat_order.proofs.tournament.mend.Given as goal

-- all places were played but for the one above
abbrev pub invariant-up : goal.invariant-up
invariant-up l = record {
  drawn : IsDrawn l.nodes l.held l.activity;
  played : ArePlayedBut l.nodes l.held l.activity (l.place / 2);
  within : l.place < 2 * length l.nodes;
}

abbrev pub decreases-up : goal.decreases-up
decreases-up l = l.place
