use Rattle.std.proofs.Common.{◌++◌, drop}
use Rattle.qv_words.specs.Routine.{rows}
use Rattle.qv_circuits.specs.Adding.{lits_of}
use Rattle.qv_circuits.proofs.Running.{Continues}
use Rattle.qv_circuits.proofs.encoder.Encoder.rows.Given as goal

-- the whole is what is left, behind the bits that are done
abbrev pub invariant-rows : goal.invariant-rows
invariant-rows l =
    Continues l.fn.self (rows (lits_of l.a) (lits_of l.fn.first.items) (lits_of l.bits)) l.self
    (rows (lits_of l.a) (lits_of l.sum.items) (drop l.bit-index (lits_of l.bits))) (λ r. lits_of l.done.items ++ r)
