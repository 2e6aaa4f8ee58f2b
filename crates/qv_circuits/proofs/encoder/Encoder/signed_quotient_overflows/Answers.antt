use Rattle.std.proofs.lemmas.List.{length-map}
use Rattle.qv_circuits.specs.Adding.{lit_of}
use Rattle.qv_circuits.proofs.Running.{encodes-then, exits, no-memory, ran-base, stopped-first, stopped-then}
use Rattle.qv_circuits.proofs.encoder.Encoder.signed_quotient_overflows.Goals as goal

pub returns-in_err-is_least : goal.returns-in_err-is_least
returns-in_err-is_least c =
    let stop = rw (c.deref.ensures.value, c.in_ok-least.ensures, ← length-map c.args.a.now lit_of) at c.in_err-is_least.ensures in
    exits c.from_residual-in_err-is_least.result lit_of c.from_residual-in_err-is_least.ensures.1
    (stopped-first _ stop)

pub returns-in_err-ones : goal.returns-in_err-ones
returns-in_err-ones c =
    exits c.from_residual-in_err-ones.result lit_of c.from_residual-in_err-ones.ensures.1 (no-memory (ran-base c.in_ok-is_least.ensures))

pub returns-in_err-is_minus_one : goal.returns-in_err-is_minus_one
returns-in_err-is_minus_one c =
    let is_least-ran = rw (c.deref.ensures.value, c.in_ok-least.ensures, ← length-map c.args.a.now lit_of) at c.in_ok-is_least.ensures in
    let stop = rw (c.deref-2.ensures.value, c.in_ok-ones.ensures, c.yes.ensures, ← length-map c.args.b.now lit_of) at c.in_err-is_minus_one.ensures in
    exits c.from_residual-in_err-is_minus_one.result lit_of c.from_residual-in_err-is_minus_one.ensures.1
    (stopped-then _ is_least-ran (stopped-first _ stop))

pub returns : goal.returns
returns c =
    let is_least-ran = rw (c.deref.ensures.value, c.in_ok-least.ensures, ← length-map c.args.a.now lit_of) at c.in_ok-is_least.ensures in
    let is_minus_one-ran = rw (c.deref-2.ensures.value, c.in_ok-ones.ensures, c.yes.ensures, ← length-map c.args.b.now lit_of) at c.in_ok-is_minus_one.ensures in
    encodes-then _ lit_of c.and.result _ is_least-ran (encodes-then _ lit_of c.and.result _ is_minus_one-ran c.and.ensures)
