use Rattle.std.proofs.Common.{◌≡◌}
use Rattle.qv_words.specs.Routine.{copies}
use Rattle.qv_circuits.specs.Adding.{lits_of}
use Rattle.qv_circuits.proofs.operators.copies.Given as goal

abbrev pub invariant-copies : goal.invariant-copies
invariant-copies l = lits_of l.lits.items ≡ copies l._i (lits_of l.bits)
