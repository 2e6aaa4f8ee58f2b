use Rattle.std.proofs.lemmas.List.{length-map}
use Rattle.qv_circuits.specs.Adding.{lit_of, lits_of}
use Rattle.qv_circuits.proofs.Running.{encodes-then, exits, stopped-first}
use Rattle.qv_circuits.proofs.encoder.Encoder.next_row.Goals as goal

pub returns-in_err-row : goal.returns-in_err-row
returns-in_err-row c =
    let h = rw (c.front.ensures, c.deref.ensures.value, c.in_ok-copies.ensures) at c.in_err-row.ensures in
    exits c.from_residual-in_err-row.result (λ v. lits_of v.items) c.from_residual-in_err-row.ensures.1 (stopped-first _ (rw (length-map c.args.high.now lit_of) h))

pub returns : goal.returns
returns c =
    let h = rw (c.front.ensures, c.deref.ensures.value, c.in_ok-copies.ensures) at c.in_ok-row.ensures in
    let k = rw (c.deref-2.ensures.value, c.no.ensures) at c.sum.ensures in
    encodes-then _ (λ v. lits_of v.items) c.sum.result _ (rw (length-map c.args.high.now lit_of) h) k
