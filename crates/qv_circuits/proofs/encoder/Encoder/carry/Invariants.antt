use Rattle.std.proofs.Common.{drop}
use Rattle.qv_words.specs.Routine.{carry}
use Rattle.qv_circuits.specs.Adding.{lit_of, lits_of}
use Rattle.qv_circuits.proofs.Running.{Continues}
use Rattle.qv_circuits.proofs.encoder.Encoder.carry.Given as goal

-- the whole is what is left
abbrev pub invariant-places : goal.invariant-places
invariant-places l =
    Continues l.fn.self (carry (lits_of l.a) (lits_of l.b) (lit_of l.fn.first)) l.self
    (carry (drop l.i (lits_of l.a)) (drop l.i (lits_of l.b)) (lit_of l.over)) (λ r. r)
