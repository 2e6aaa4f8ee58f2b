use Rattle.qv_circuits.specs.Adding.{lits_of}
use Rattle.qv_circuits.proofs.Running.{exits, ran-done, ran-then, stopped-first}
use Rattle.qv_circuits.proofs.encoder.Encoder.difference.Goals as goal

pub returns-in_err-difference : goal.returns-in_err-difference
returns-in_err-difference c =
    exits c.from_residual.result (λ v. lits_of v.items) c.from_residual.ensures.1
    (stopped-first _ c.in_err-difference.ensures)

pub returns : goal.returns
returns c =
    ran-then _ c.in_ok-difference.ensures (ran-done _ _)
