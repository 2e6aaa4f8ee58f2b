use Rattle.std.proofs.lemmas.List.{length-map}
use Rattle.qv_circuits.specs.Adding.{lit_of, lits_of}
use Rattle.qv_circuits.proofs.Running.{exits, ran-done, ran-then, stopped-first, stopped-then}
use Rattle.qv_circuits.proofs.encoder.Encoder.next_bit.Goals as goal

pub returns-in_err-difference : goal.returns-in_err-difference
returns-in_err-difference c =
    let h = rw (c.deref.ensures.value, c.deref-2.ensures.value, c.in_ok-dividend.ensures, c.in_ok-wide.ensures, c.no.ensures) at c.in_err-difference.ensures in
    exits c.from_residual-in_err-difference.result (λ r. (lit_of r.0, lits_of r.1.items)) c.from_residual-in_err-difference.ensures.1 (stopped-first _ h)

pub returns-in_err-next : goal.returns-in_err-next
returns-in_err-next c =
    let h = rw (c.deref.ensures.value, c.deref-2.ensures.value, c.in_ok-dividend.ensures, c.in_ok-wide.ensures, c.no.ensures) at c.in_ok-difference.ensures in
    let k = rw (c.front.ensures, c.front-2.ensures, c.deref-3.ensures.value, c.deref-4.ensures.value, c.in_ok-dividend.ensures) at c.in_err-next.ensures in
    exits c.from_residual-in_err-next.result (λ r. (lit_of r.0, lits_of r.1.items)) c.from_residual-in_err-next.ensures.1
    (stopped-then _ h (rw (length-map c.args.divisor.now lit_of) (stopped-first _ k)))

pub returns : goal.returns
returns c =
    let h = rw (c.deref.ensures.value, c.deref-2.ensures.value, c.in_ok-dividend.ensures, c.in_ok-wide.ensures, c.no.ensures) at c.in_ok-difference.ensures in
    let k = rw (c.front.ensures, c.front-2.ensures, c.deref-3.ensures.value, c.deref-4.ensures.value, c.in_ok-dividend.ensures) at c.in_ok-next.ensures in
    ran-then _ h (rw (length-map c.args.divisor.now lit_of) (ran-then _ k (ran-done _ _)))
