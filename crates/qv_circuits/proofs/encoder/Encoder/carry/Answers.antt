use Rattle.std.proofs.Common.{arith}
use Rattle.qv_circuits.specs.Adding.{lit_of}
use Rattle.qv_circuits.proofs.Running.{exits}
use Rattle.qv_circuits.proofs.Turns.{carry-ends, carry-stops, carry-turn}
use Rattle.qv_circuits.proofs.encoder.Encoder.carry.Goals as goal

pub returns-in_err-over : goal.returns-in_err-over
returns-in_err-over c =
    let h = rw c.negated.ensures at c.in_err-over.ensures in
    exits c.from_residual.result lit_of c.from_residual.ensures.1
    (carry-stops c.args.a.now c.args.b.now c.places.i c.index-a-i.result c.index-b-i.result (lit_of c.places.over) _ (omega arith) (omega arith) c.index-a-i.is c.index-b-i.is c.places.invariant h)

pub places-preserved : goal.places-preserved
places-preserved c =
    let h = rw c.negated.ensures at c.in_ok-over.ensures in
    carry-turn c.args.a.now c.args.b.now c.places.i c.index-a-i.result c.index-b-i.result c.in_ok-over.over (lit_of c.places.over) _ (omega arith) (omega arith) c.index-a-i.is c.index-b-i.is c.places.invariant h

pub returns : goal.returns
returns c = carry-ends c.args.a.now c.args.b.now c.places.i (lit_of c.places.over) _ (omega arith) c.places.invariant
