use Rattle.qv_circuits.specs.Adding.{lits_of}
use Rattle.qv_circuits.proofs.Running.{encodes-then, exits, stopped-first}
use Rattle.qv_circuits.proofs.encoder.Encoder.modulus_of.Goals as goal

pub returns-in_err-_quotient : goal.returns-in_err-_quotient
returns-in_err-_quotient c =
    exits c.from_residual.result (λ v. lits_of v.items) c.from_residual.ensures.1
    (stopped-first _ c.in_err-_quotient.ensures)

pub returns : goal.returns
returns c =
    let last = rw (c.deref.ensures.value) at c.modulus_from.ensures in
    encodes-then _ (λ v. lits_of v.items) c.modulus_from.result _ c.in_ok-_quotient.ensures last
