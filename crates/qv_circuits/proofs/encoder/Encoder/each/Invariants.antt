use Rattle.std.proofs.Common.{◌++◌, drop}
use Rattle.qv_words.specs.Routine.{each}
use Rattle.qv_circuits.specs.Adding.{lits_of}
use Rattle.qv_circuits.specs.Bitwise.{gate_of}
use Rattle.qv_circuits.proofs.Running.{Continues}
use Rattle.qv_circuits.proofs.encoder.Encoder.each.Given as goal

-- the whole is what is left, behind the bits so far
abbrev pub invariant-places : goal.invariant-places
invariant-places l =
    Continues l.fn.self (each (gate_of l.gate) (lits_of l.a) (lits_of l.b)) l.self
    (each (gate_of l.gate) (drop l.i (lits_of l.a)) (drop l.i (lits_of l.b))) (λ r. lits_of l.bits.items ++ r)
