use Rattle.qv_circuits.specs.Adding.{lits_of}
use Rattle.qv_circuits.proofs.Running.{encodes-then, exits, stopped-first, stopped-then}
use Rattle.qv_circuits.proofs.encoder.Encoder.signed_quotient.Goals as goal

pub returns-in_err-m : goal.returns-in_err-m
returns-in_err-m c =
    exits c.from_residual.result (λ v. lits_of v.items) c.from_residual.ensures.1
    (stopped-first _ c.in_err-m.ensures)

pub returns-in_err-n : goal.returns-in_err-n
returns-in_err-n c =
    exits c.from_residual-in_err-n.result (λ v. lits_of v.items) c.from_residual-in_err-n.ensures.1
    (stopped-then _ c.in_ok-m.ensures (stopped-first _ c.in_err-n.ensures))

pub returns : goal.returns
returns c =
    let last = rw (c.top.ensures, c.top-2.ensures, c.deref.ensures.value, c.deref-2.ensures.value) at c.quotient_of.ensures in
    encodes-then _ (λ v. lits_of v.items) c.quotient_of.result _ c.in_ok-m.ensures (encodes-then _ (λ v. lits_of v.items) c.quotient_of.result _ c.in_ok-n.ensures last)
