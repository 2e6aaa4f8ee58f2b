use Rattle.qv_circuits.specs.Adding.{lits_of}
use Rattle.qv_circuits.proofs.Running.{exits, ran-done, ran-then, stopped-first}
use Rattle.qv_circuits.proofs.encoder.Encoder.sum.Goals as goal

pub returns-in_err-sums : goal.returns-in_err-sums
returns-in_err-sums c = exits c.from_residual.result (λ v. lits_of v.items) c.from_residual.ensures.1 (stopped-first _ c.in_err-sums.ensures)

pub returns : goal.returns
returns c = ran-then _ c.in_ok-sums.ensures (ran-done _ _)
