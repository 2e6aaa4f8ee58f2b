use Rattle.qv_circuits.specs.Adding.{lits_of}
use Rattle.qv_circuits.proofs.Ranked.{moves-bits}
use Rattle.qv_circuits.proofs.encoder.Encoder.unary.Goals as goal

pub returns-in_ok-bits-in_default : goal.returns-in_ok-bits-in_default
returns-in_ok-bits-in_default c =
    let h = rw c.in_ok-bits-in_default.ensures at c.without_gates.ensures in
    rw (moves-bits c.args.op (lits_of c.args.a.now) c.in_default.not-BvNeg c.in_default.not-BvNego) h
