use Rattle.std.proofs.Common.{◌*◌, ◌<◌, length}
use Rattle.qv_sat_order.specs.Tournament.{IsDrawn, IsRaising}
use Rattle.qv_sat_order.proofs.tournament.raise.Given as goal

abbrev pub invariant-up : goal.invariant-up
invariant-up l = record {
  drawn : IsDrawn l.nodes l.held l.activity;
  raising : IsRaising l.nodes l.held l.activity l.variable l.place;
  within : l.place < 2 * length l.nodes;
}

abbrev pub decreases-up : goal.decreases-up
decreases-up l = l.place
