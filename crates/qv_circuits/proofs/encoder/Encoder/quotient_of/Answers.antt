use Rattle.qv_circuits.specs.Adding.{lits_of}
use Rattle.qv_circuits.proofs.Running.{encodes-then, exits, stopped-first, stopped-then}
use Rattle.qv_circuits.proofs.encoder.Encoder.quotient_of.Goals as goal

pub returns-in_err-quotient : goal.returns-in_err-quotient
returns-in_err-quotient c =
    exits c.from_residual.result (λ v. lits_of v.items) c.from_residual.ensures.1
    (stopped-first _ c.in_err-quotient.ensures)

pub returns-in_err-differ : goal.returns-in_err-differ
returns-in_err-differ c =
    exits c.from_residual-in_err-differ.result (λ v. lits_of v.items) c.from_residual-in_err-differ.ensures.1
    (stopped-then _ c.in_ok-quotient.ensures (stopped-first _ c.in_err-differ.ensures))

pub returns : goal.returns
returns c =
    let last = rw (c.deref.ensures.value) at c.signed.ensures in
    encodes-then _ (λ v. lits_of v.items) c.signed.result _ c.in_ok-quotient.ensures (encodes-then _ (λ v. lits_of v.items) c.signed.result _ c.in_ok-differ.ensures last)
