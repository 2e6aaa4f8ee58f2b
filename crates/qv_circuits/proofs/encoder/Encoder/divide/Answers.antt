use Rattle.std.proofs.Common.{arith}
use Rattle.std.specs.Prelude.{reverse}
use Rattle.std.proofs.lemmas.List.{length-map}
use Rattle.qv_circuits.specs.Adding.{lit_of, lits_of}
use Rattle.qv_circuits.proofs.MadeLists.{lits-reverse}
use Rattle.qv_circuits.proofs.Rounds.{divided-ends, divided-stops, divided-turn}
use Rattle.qv_circuits.proofs.Running.{continues-itself, exits, out-of-memory, unfinished}
use Rattle.qv_circuits.proofs.encoder.Encoder.divide.Goals as goal

pub bits-init : goal.bits-init
bits-init c =
    rw (c.deref-bit-items.ensures.value, c.in_ok-bits.ensures, c.in_ok-quotient.ensures.items, c.in_ok-rest.ensures, c.no.ensures, length-map c.args.a.now lit_of) continues-itself

pub returns-in_err-fits : goal.returns-in_err-fits
returns-in_err-fits c =
    let g = rw c.deref.ensures.value at c.in_err-fits.ensures in
    exits c.from_residual-in_err-fits.result (λ r. (lits_of r.0.items, lits_of r.1.items)) c.from_residual-in_err-fits.ensures.1
    (divided-stops (lits_of c.args.b.now) c.deref-bit-items.result.now c.bits.rest.items (reverse (lits_of c.bits.quotient.items)) c.bits.bit-index c.bit-item.result _ (omega arith) c.bit-item.is c.bits.invariant g)

pub returns-in_err-push : goal.returns-in_err-push
returns-in_err-push c =
    exits c.from_residual-in_err-push.result (λ r. (lits_of r.0.items, lits_of r.1.items)) c.from_residual-in_err-push.ensures.1 (unfinished c.bits.invariant c.in_ok-fits.ensures)

pub bits-preserved : goal.bits-preserved
bits-preserved c =
    let g = rw c.deref.ensures.value at c.in_ok-fits.ensures in
    rw c.in_ok-push.ensures.items
    (divided-turn (lits_of c.args.b.now) c.deref-bit-items.result.now c.bits.quotient.items c.bits.rest.items c.in_ok-fits.next.items c.bits.bit-index c.bit-item.result c.in_ok-fits.fits _ (omega arith) c.bit-item.is c.bits.invariant g)

pub returns-in_err-quotient-2 : goal.returns-in_err-quotient-2
returns-in_err-quotient-2 c =
    exits c.from_residual-in_err-quotient-2.result (λ r. (lits_of r.0.items, lits_of r.1.items)) c.from_residual-in_err-quotient-2.ensures.1 (out-of-memory c.bits.invariant)

pub returns : goal.returns
returns c =
    rw (c.in_ok-quotient-2.ensures, c.deref-2.ensures.value, ← lits-reverse c.bits.quotient.items)
    (divided-ends (lits_of c.args.b.now) c.deref-bit-items.result.now c.bits.quotient.items c.bits.rest.items c.bits.bit-index (λ r. r) (omega arith) c.bits.invariant)
