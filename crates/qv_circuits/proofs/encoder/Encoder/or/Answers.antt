use Rattle.qv_circuits.specs.Adding.{lit_of}
use Rattle.qv_circuits.proofs.Running.{exits, ran-done, ran-then, stopped-first}
use Rattle.qv_circuits.proofs.encoder.Encoder.or.Goals as goal

pub returns-in_err-both : goal.returns-in_err-both
returns-in_err-both c =
    let h = rw (c.negated.ensures, c.negated-2.ensures) at c.in_err-both.ensures in
    exits c.from_residual.result lit_of c.from_residual.ensures.1 (stopped-first _ h)

pub returns : goal.returns
returns c =
    let h = rw (c.negated.ensures, c.negated-2.ensures) at c.in_ok-both.ensures in
    rw c.negated-3.ensures (ran-then _ h (ran-done _ _))
