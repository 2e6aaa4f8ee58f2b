use Rattle.std.proofs.Common.{refl}
use Rattle.std.proofs.lemmas.List.{length-map}
use Rattle.qv_circuits.specs.Adding.{lit_of, lits_of}
use Rattle.qv_circuits.proofs.Running.{encodes-then, exits, no-memory, stopped-first}
use Rattle.qv_circuits.proofs.encoder.Encoder.plus_where.Goals as goal

pub returns-in_err-turns : goal.returns-in_err-turns
returns-in_err-turns c = exits c.from_residual.result (λ v. lits_of v.items) c.from_residual.ensures.1 (no-memory refl)

pub returns-in_err-more : goal.returns-in_err-more
returns-in_err-more c =
    let stop = rw (c.deref.ensures.value, c.in_ok-turns.ensures, ← length-map c.args.b.now lit_of) at c.in_err-more.ensures in
    exits c.from_residual-in_err-more.result (λ v. lits_of v.items) c.from_residual-in_err-more.ensures.1
    (stopped-first _ stop)

pub returns : goal.returns
returns c =
    let ran = rw (c.deref.ensures.value, c.in_ok-turns.ensures, ← length-map c.args.b.now lit_of) at c.in_ok-more.ensures in
    let last = rw (c.deref-2.ensures.value, c.no.ensures) at c.sum.ensures in
    encodes-then _ (λ v. lits_of v.items) c.sum.result _ ran last
