use Rattle.std.proofs.Common.{◌++◌, drop}
use Rattle.qv_words.specs.Routine.{add}
use Rattle.qv_circuits.specs.Adding.{lit_of, lits_of}
use Rattle.qv_circuits.proofs.Running.{Continues}
use Rattle.qv_circuits.proofs.encoder.Encoder.add.Given as goal

-- the whole is what is left, behind the bits so far
abbrev pub invariant-places : goal.invariant-places
invariant-places l =
    Continues l.fn.self (add (lits_of l.a) (lits_of l.b) (lit_of l.fn.carry)) l.self
    (add (drop l.i (lits_of l.a)) (drop l.i (lits_of l.b)) (lit_of l.over)) (λ r. (lits_of l.sums.items ++ r.0, r.1))
