use Rattle.std.proofs.Common.{◌≡◌, ◌≤◌, length, drop}
use Rattle.qv_circuits_laws.specs.CircuitLaws.{number_of}
use Rattle.qv_circuits.specs.Adding.{lits_of}
use Rattle.qv_sat.specs.Answering.{assignment}
use Rattle.qv_game_lanes.proofs.bits.number_in.Given as goal

abbrev pub invariant-bits : goal.invariant-bits
invariant-bits l = record {
  number : l.number ≡ number_of (assignment l.model) (lits_of (drop l.left l.bits));
  within : l.left ≤ length l.bits;
}

abbrev pub decreases-bits : goal.decreases-bits
decreases-bits l = l.left
