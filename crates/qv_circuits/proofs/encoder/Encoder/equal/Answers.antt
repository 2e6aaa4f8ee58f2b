use Rattle.qv_circuits.specs.Adding.{lit_of}
use Rattle.qv_circuits.proofs.Running.{continues-itself, encodes-then, exits, stopped-first, unfinished}
use Rattle.qv_circuits.proofs.encoder.Encoder.equal.Goals as goal

pub returns-in_err-differences : goal.returns-in_err-differences
returns-in_err-differences c = exits c.from_residual.result lit_of c.from_residual.ensures.1 (stopped-first _ c.in_err-differences.ensures)

pub returns-in_err-same : goal.returns-in_err-same
returns-in_err-same c = exits c.from_residual-in_err-same.result lit_of c.from_residual-in_err-same.ensures.1 (unfinished continues-itself c.in_ok-differences.ensures)

pub returns : goal.returns
returns c =
    let h = rw (c.deref-2.ensures.value, c.in_ok-same.ensures, c.deref.ensures.value) at c.all.ensures in
    encodes-then _ lit_of c.all.result _ c.in_ok-differences.ensures h
