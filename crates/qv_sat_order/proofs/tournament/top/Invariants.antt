use Rattle.std.proofs.Common.{◌≤◌}
use Rattle.qv_sat_order.specs.Tournament.{Stands}
use Rattle.qv_sat_order.proofs.tournament.top.Given as goal

abbrev pub invariant-up : goal.invariant-up
invariant-up l = record {
  stands : Stands l.nodes l.leaf l.variable l.place;
  within : l.place ≤ l.leaf;
}

abbrev pub decreases-up : goal.decreases-up
decreases-up l = l.place
