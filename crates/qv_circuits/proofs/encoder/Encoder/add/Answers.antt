use Rattle.std.proofs.Common.{arith}
use Rattle.qv_circuits.specs.Adding.{lit_of, lits_of}
use Rattle.qv_circuits.proofs.Running.{exits, unfinished}
use Rattle.qv_circuits.proofs.Turns.{add-ends, add-stops, add-turn}
use Rattle.qv_circuits.proofs.encoder.Encoder.add.Goals as goal

pub returns-in_err-sum : goal.returns-in_err-sum
returns-in_err-sum c =
    exits c.from_residual-in_err-sum.result (λ r. (lits_of r.0.items, lit_of r.1)) c.from_residual-in_err-sum.ensures.1
    (add-stops c.args.a.now c.args.b.now c.places.i c.index-a-i.result c.index-b-i.result (lit_of c.places.over) _ (omega arith) (omega arith) c.index-a-i.is c.index-b-i.is c.places.invariant c.in_err-sum.ensures)

pub returns-in_err-push : goal.returns-in_err-push
returns-in_err-push c =
    exits c.from_residual-in_err-push.result (λ r. (lits_of r.0.items, lit_of r.1)) c.from_residual-in_err-push.ensures.1 (unfinished c.places.invariant c.in_ok-sum.ensures)

pub places-preserved : goal.places-preserved
places-preserved c =
    rw c.in_ok-push.ensures.items (add-turn c.args.a.now c.args.b.now c.places.sums.items c.places.i c.index-a-i.result c.index-b-i.result c.in_ok-sum.sum c.in_ok-sum.next (lit_of c.places.over) (λ r. r) (omega arith) (omega arith) c.index-a-i.is c.index-b-i.is c.places.invariant c.in_ok-sum.ensures)

pub returns : goal.returns
returns c = add-ends c.args.a.now c.args.b.now c.places.sums.items c.places.i (lit_of c.places.over) (λ r. r) (omega arith) c.places.invariant
