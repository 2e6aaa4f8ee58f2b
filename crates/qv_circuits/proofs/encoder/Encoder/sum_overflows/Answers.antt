use Rattle.qv_circuits.specs.Adding.{lit_of}
use Rattle.qv_circuits.proofs.Running.{exits, ran-done, ran-then, stopped-first}
use Rattle.qv_circuits.proofs.encoder.Encoder.sum_overflows.Goals as goal

pub returns-in_err-_sum : goal.returns-in_err-_sum
returns-in_err-_sum c =
    let stop = rw (c.no.ensures) at c.in_err-_sum.ensures in
    exits c.from_residual.result lit_of c.from_residual.ensures.1
    (stopped-first _ stop)

pub returns : goal.returns
returns c =
    let _sum-ran = rw (c.no.ensures) at c.in_ok-_sum.ensures in
    ran-then _ _sum-ran (ran-done _ _)
