use Rattle.std.proofs.Common.{drop}
use Rattle.qv_circuits.specs.Adding.{lit_of, lits_of}
use Rattle.qv_circuits.specs.Bitwise.{gate_of, folded}
use Rattle.qv_circuits.proofs.Running.{Continues}
use Rattle.qv_circuits.proofs.encoder.Encoder.fold.Given as goal

-- the whole is what is left
abbrev pub invariant-literals : goal.invariant-literals
invariant-literals l =
    Continues l.fn.self (folded (gate_of l.gate) (lit_of l.fn.first) (lits_of l.rest)) l.self
    (folded (gate_of l.gate) (lit_of l.lit) (drop l.next-index (lits_of l.rest))) (λ r. r)
