use Rattle.qv_circuits.specs.Encoding.{lits_of_pair}
use Rattle.qv_circuits.proofs.Running.{exits, ran-done, ran-then, stopped-first, stopped-then}
use Rattle.qv_circuits.proofs.encoder.Encoder.full_adder.Goals as goal

pub returns-in_err-x : goal.returns-in_err-x
returns-in_err-x c = exits c.from_residual.result lits_of_pair c.from_residual.ensures.1 (stopped-first _ c.in_err-x.ensures)

pub returns-in_err-sum : goal.returns-in_err-sum
returns-in_err-sum c =
    exits c.from_residual-in_err-sum.result lits_of_pair c.from_residual-in_err-sum.ensures.1 (stopped-then _ c.in_ok-x.ensures (stopped-first _ c.in_err-sum.ensures))

pub returns-in_err-carry : goal.returns-in_err-carry
returns-in_err-carry c =
    exits c.from_residual-in_err-carry.result lits_of_pair c.from_residual-in_err-carry.ensures.1
    (stopped-then _ c.in_ok-x.ensures (stopped-then _ c.in_ok-sum.ensures (stopped-first _ c.in_err-carry.ensures)))

pub returns : goal.returns
returns c = ran-then _ c.in_ok-x.ensures (ran-then _ c.in_ok-sum.ensures (ran-then _ c.in_ok-carry.ensures (ran-done _ _)))
