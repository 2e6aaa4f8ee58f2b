use Rattle.std.proofs.Common.{arith}
use Rattle.qv_circuits.specs.Adding.{lits_of}
use Rattle.qv_circuits.specs.Bitwise.{gate_of}
use Rattle.qv_circuits.proofs.Running.{exits, unfinished}
use Rattle.qv_circuits.proofs.Turns.{each-ends, each-stops, each-turn}
use Rattle.qv_circuits.proofs.encoder.Encoder.each.Goals as goal

pub returns-in_err-bit : goal.returns-in_err-bit
returns-in_err-bit c =
    exits c.from_residual-in_err-bit.result (λ v. lits_of v.items) c.from_residual-in_err-bit.ensures.1
    (each-stops (gate_of c.args.gate.now) c.args.a.now c.args.b.now c.places.i c.index-a-i.result c.index-b-i.result _ (omega arith) (omega arith) c.index-a-i.is c.index-b-i.is c.places.invariant c.in_err-bit.ensures)

pub returns-in_err-push : goal.returns-in_err-push
returns-in_err-push c =
    exits c.from_residual-in_err-push.result (λ v. lits_of v.items) c.from_residual-in_err-push.ensures.1 (unfinished c.places.invariant c.in_ok-bit.ensures)

pub places-preserved : goal.places-preserved
places-preserved c =
    rw c.in_ok-push.ensures.items (each-turn (gate_of c.args.gate.now) c.args.a.now c.args.b.now c.places.bits.items c.places.i c.index-a-i.result c.index-b-i.result c.in_ok-bit.bit (λ r. r) (omega arith) (omega arith) c.index-a-i.is c.index-b-i.is c.places.invariant c.in_ok-bit.ensures)

pub returns : goal.returns
returns c = each-ends (gate_of c.args.gate.now) c.args.a.now c.args.b.now c.places.bits.items c.places.i (λ r. r) (omega arith) c.places.invariant
