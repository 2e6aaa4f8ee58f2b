use Rattle.qv_circuits.specs.Adding.{lits_of}
use Rattle.qv_circuits.proofs.Running.{encodes-then, exits, stopped-first}
use Rattle.qv_circuits.proofs.encoder.Encoder.signed.Goals as goal

pub returns-in_err-negative : goal.returns-in_err-negative
returns-in_err-negative c = exits c.from_residual.result (λ v. lits_of v.items) c.from_residual.ensures.1 (stopped-first _ c.in_err-negative.ensures)

pub returns : goal.returns
returns c =
    let h = rw (c.deref.ensures.value) at c.select.ensures in
    encodes-then _ (λ v. lits_of v.items) c.select.result _ c.in_ok-negative.ensures h
