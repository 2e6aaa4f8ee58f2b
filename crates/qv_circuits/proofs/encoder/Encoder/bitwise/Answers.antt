use Rattle.std.proofs.Common.{◌≡◌, true, arith}
use Rattle.qv_circuits.specs.Adding.{lits_of}
use Rattle.qv_circuits.specs.Bitwise.{gate_of}
use Rattle.qv_circuits.proofs.KindLaws.{bitwise-stopped, negated-ran}
use Rattle.qv_circuits.proofs.Running.{exits, no-memory, ran-base}
use Rattle.qv_circuits.proofs.encoder.Encoder.bitwise.Goals as goal

pub returns-in_err-bits : goal.returns-in_err-bits
returns-in_err-bits c =
    exits c.from_residual.result (λ v. lits_of v.items) c.from_residual.ensures.1 (bitwise-stopped c.args.negate (gate_of c.args.gate.now) _ _ c.in_err-bits.ensures)

pub returns-in_err-negated : goal.returns-in_err-negated
returns-in_err-negated c =
    exits c.from_residual-in_err-negated.result (λ v. lits_of v.items) c.from_residual-in_err-negated.ensures.1 (no-memory (ran-base c.in_ok-bits.ensures))

pub returns : goal.returns
returns c =
    let h = negated-ran (gate_of c.args.gate.now) (lits_of c.args.a.now) (lits_of c.args.b.now) c.in_ok-bits.ensures in
    let is : c.args.negate ≡ true = grind arith in
    rw (is, c.in_ok-negated.ensures, c.deref.ensures.value) h
