use Rattle.qv_circuits.specs.Adding.{lits_of}
use Rattle.qv_circuits.specs.Kinds.{test_circuit}
use Rattle.qv_circuits.proofs.KindLaws.{tested-ran, tested-stopped}
use Rattle.qv_circuits.proofs.Running.{exits, no-memory, ran-base}
use Rattle.qv_circuits.proofs.encoder.Encoder.tested.Goals as goal

pub returns-in_err-answer : goal.returns-in_err-answer
returns-in_err-answer c = exits c.from_residual.result (λ v. lits_of v.items) c.from_residual.ensures.1 (tested-stopped c.args.negate _ c.in_err-answer.ensures)

pub returns-in_err-bits : goal.returns-in_err-bits
returns-in_err-bits c = exits c.from_residual-in_err-bits.result (λ v. lits_of v.items) c.from_residual-in_err-bits.ensures.1 (no-memory (ran-base c.in_ok-answer.ensures))

pub returns-in_err-push : goal.returns-in_err-push
returns-in_err-push c = exits c.from_residual-in_err-push.result (λ v. lits_of v.items) c.from_residual-in_err-push.ensures.1 (no-memory (ran-base c.in_ok-answer.ensures))

pub returns : goal.returns
returns c =
    let h = tested-ran c.args.negate (test_circuit c.args.test (lits_of c.args.a.now) (lits_of c.args.b.now)) c.in_ok-answer.ensures in
    rw (c.in_ok-push.ensures.items, c.in_ok-bits.ensures.items, c.negated_if.ensures) h
