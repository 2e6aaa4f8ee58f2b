use Rattle.std.proofs.Common.{drop}
use Rattle.std.specs.Prelude.{reverse}
use Rattle.qv_words.specs.Routine.{div, divided}
use Rattle.qv_circuits.specs.Adding.{lits_of}
use Rattle.qv_circuits.proofs.Running.{Continues}
use Rattle.qv_circuits.proofs.encoder.Encoder.divide.Given as goal

-- the whole is what is left
abbrev pub invariant-bits : goal.invariant-bits
invariant-bits l =
    Continues l.fn.self (div (lits_of l.a) (lits_of l.b)) l.self
    (divided (lits_of l.b) (drop l.bit-index (lits_of l.bit-items)) (reverse (lits_of l.quotient.items)) (lits_of l.rest.items)) (λ r. r)
