use Rattle.std.proofs.Common.{Option, Err, ap, sym, subst}
use Rattle.std.specs.Prelude.{IfOk}
use Rattle.qv_cnf.specs.LratLine.{LratLine}
use Rattle.qv_lrat.specs.Judging.{IsTaken}
use Rattle.qv_lrat.proofs.Turns.{taken-form}
use Rattle.qv_lrat.proofs.taking.take_line.Goals as goal

pub returns-in-Ok : goal.returns-in-Ok
returns-in-Ok c =
    subst (λ (line : Option LratLine). IfOk c.take_step-taken.result (λ refused. IsTaken c.args.checker.now line refused c.take_step-taken.new.checker)) (sym c.in-Ok.ensures.read) c.take_step-taken.ensures

pub returns-in-Err-Form : goal.returns-in-Err-Form
returns-in-Err-Form c = taken-form c.args.checker.now c.args.checker.now _ (c.in-Err-Form.ensures.form (ap Err c.in-Err-Form.field-0-is))
