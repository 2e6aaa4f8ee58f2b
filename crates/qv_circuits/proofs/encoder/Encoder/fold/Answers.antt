use Rattle.std.proofs.Common.{arith}
use Rattle.qv_circuits.specs.Adding.{lit_of}
use Rattle.qv_circuits.specs.Bitwise.{gate_of}
use Rattle.qv_circuits.proofs.Running.{exits}
use Rattle.qv_circuits.proofs.Turns.{fold-ends, fold-stops, fold-turn}
use Rattle.qv_circuits.proofs.encoder.Encoder.fold.Goals as goal

pub returns-in_err-lit : goal.returns-in_err-lit
returns-in_err-lit c =
    exits c.from_residual.result lit_of c.from_residual.ensures.1
    (fold-stops (gate_of c.args.gate.now) c.args.rest.now (lit_of c.literals.lit) c.literals.next-index c.next-item.result _ (omega arith) c.next-item.is c.literals.invariant c.in_err-lit.ensures)

pub literals-preserved : goal.literals-preserved
literals-preserved c =
    fold-turn (gate_of c.args.gate.now) c.args.rest.now (lit_of c.literals.lit) c.literals.next-index c.next-item.result c.in_ok-lit.lit _ (omega arith) c.next-item.is c.literals.invariant c.in_ok-lit.ensures

pub returns : goal.returns
returns c = fold-ends (gate_of c.args.gate.now) c.args.rest.now (lit_of c.literals.lit) c.literals.next-index _ (omega arith) c.literals.invariant
