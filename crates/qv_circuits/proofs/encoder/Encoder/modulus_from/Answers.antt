use Rattle.qv_circuits.specs.Adding.{lits_of}
use Rattle.qv_circuits.proofs.Running.{encodes-then, exits, stopped-first, stopped-then}
use Rattle.qv_circuits.proofs.encoder.Encoder.modulus_from.Goals as goal

pub returns-in_err-negative : goal.returns-in_err-negative
returns-in_err-negative c =
    exits c.from_residual.result (λ v. lits_of v.items) c.from_residual.ensures.1
    (stopped-first _ c.in_err-negative.ensures)

pub returns-in_err-signed : goal.returns-in_err-signed
returns-in_err-signed c =
    let stop = rw (c.top.ensures, c.deref.ensures.value) at c.in_err-signed.ensures in
    exits c.from_residual-in_err-signed.result (λ v. lits_of v.items) c.from_residual-in_err-signed.ensures.1
    (stopped-then _ c.in_ok-negative.ensures (stopped-first _ stop))

pub returns : goal.returns
returns c =
    let ran = rw (c.top.ensures, c.deref.ensures.value) at c.in_ok-signed.ensures in
    let last = rw (c.deref-2.ensures.value) at c.turned_modulus.ensures in
    encodes-then _ (λ v. lits_of v.items) c.turned_modulus.result _ c.in_ok-negative.ensures (encodes-then _ (λ v. lits_of v.items) c.turned_modulus.result _ ran last)
