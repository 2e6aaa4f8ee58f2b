use Rattle.qv_words.specs.Gate.{XorGate}
use Rattle.qv_circuits.specs.Adding.{lit_of}
use Rattle.qv_circuits.proofs.Running.{exits, gate-ran, gate-stopped}
use Rattle.qv_circuits.proofs.encoder.Encoder.xor.Goals as goal

pub returns-in_err-g : goal.returns-in_err-g
returns-in_err-g c = exits c.from_residual.result lit_of c.from_residual.ensures.1 (gate-stopped _ c.in_err-g.ensures.err c.in_err-g.ensures.over)

pub returns : goal.returns
returns c =
    rw c.in_ok-g.ensures.variable (gate-ran (XorGate (lit_of c.args.a) (lit_of c.args.b))
    (rw (
      c.in_ok-clause-4.ensures.ok,
      c.in_ok-clause-3.ensures.ok,
      c.in_ok-clause-2.ensures.ok,
      c.in_ok-clause.ensures.ok,
      c.in_ok-g.ensures.ok,
      c.negated.ensures,
      c.negated-2.ensures,
      c.negated-3.ensures,
      c.negated-4.ensures,
      c.negated-5.ensures,
      c.negated-6.ensures,
      c.in_ok-g.ensures.variable,
    )))
