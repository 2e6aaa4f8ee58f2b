use Rattle.std.proofs.Common.{Err, subst, sym}
use Rattle.qv_cnf.specs.LratLine.{line_of}
use Rattle.qv_cert.specs.Line.{Step}
use Rattle.qv_check_lines.specs.declared.verdict.Verdict.{Verdict}
use Rattle.qv_check_lines.specs.Steps.{IsTaken}
use Rattle.qv_check_lines.proofs.Judged.{taken}
use Rattle.qv_check_lines.proofs.steps.take.Goals as goal

pub returns-in-Err : goal.returns-in-Err
returns-in-Err c task answer =
    subst (λ (v : Verdict). IsTaken task answer c.args.checker.now (Step (line_of c.args.step.now)) c.args.number (Err v) c.take_step.new.checker) (sym c.refusal.ensures)
    (taken task answer c.args.checker.now c.take_step.new.checker (line_of c.args.step.now) c.args.number (Err c.in-Err.fault) (c.in-Err.ensures answer))
