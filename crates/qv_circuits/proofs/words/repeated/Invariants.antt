use Rattle.std.proofs.Common.{◌≡◌, replicate}
use Rattle.qv_circuits.specs.Adding.{lit_of, lits_of}
use Rattle.qv_circuits.proofs.words.repeated.Given as goal

abbrev pub invariant-copies : goal.invariant-copies
invariant-copies l = lits_of l.lits.items ≡ replicate l._i (lit_of l.lit)
