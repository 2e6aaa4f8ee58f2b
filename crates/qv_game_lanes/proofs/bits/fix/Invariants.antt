use Rattle.std.proofs.Common.{◌≡◌, ◌++◌, drop}
use Rattle.qv_game_entry_laws.specs.Fixings.{fixed}
use Rattle.qv_circuits.specs.Adding.{lits_of}
use Rattle.qv_game_lanes.proofs.bits.fix.Given as goal

abbrev pub invariant-bits : goal.invariant-bits
invariant-bits l = lits_of l.lits.items ++ fixed l.rest (lits_of (drop l.bit-index l.bits)) ≡ lits_of l.initial.lits.items ++ fixed l.initial.rest (lits_of l.bits)
