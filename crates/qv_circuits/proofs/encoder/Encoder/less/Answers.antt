use Rattle.qv_circuits.specs.Adding.{lit_of}
use Rattle.qv_circuits.proofs.Running.{exits, ran-done, ran-then, stopped-first}
use Rattle.qv_circuits.proofs.encoder.Encoder.less.Goals as goal

pub returns-in_err-at_least : goal.returns-in_err-at_least
returns-in_err-at_least c =
    let h = rw c.yes.ensures at c.in_err-at_least.ensures in
    exits c.from_residual.result lit_of c.from_residual.ensures.1 (stopped-first _ h)

pub returns : goal.returns
returns c =
    let h = rw c.yes.ensures at c.in_ok-at_least.ensures in
    rw c.negated.ensures (ran-then _ h (ran-done _ _))
