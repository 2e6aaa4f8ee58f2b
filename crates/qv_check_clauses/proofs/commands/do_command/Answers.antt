use Rattle.std.proofs.Common.{◌≡◌, Ok, subst}
use Rattle.std.specs.Prelude.{Result}
use Rattle.qv_script_defs.specs.declared.effects.Effect.{Effect as Told}
use Rattle.qv_script_defs.specs.declared.faults.ScriptFault.{ScriptFault}
use Rattle.qv_script_defs.specs.Commands.{after}
use Rattle.qv_script_stack.specs.Steps.{Gives}
use Rattle.qv_check_script.proofs.Checked.{step-done}
use Rattle.qv_check_script.proofs.Leading.{ok-weaker}
use Rattle.qv_check_clauses.proofs.commands.do_command.Goals as goal

pub returns-in-Ok : goal.returns-in-Ok
returns-in-Ok c =
    let whole : c.step.result ≡ Ok c.in-Ok.effect = cc in
    ok-weaker c.check_of.result _ _ c.check_of.ensures
    (λ found go s e standing is.
    let gives = subst (λ (r : Result Told ScriptFault). Gives c.step.new.store c.step.new.self (after s e) r) whole (c.step.ensures.step s e standing.script is) in
    let d = step-done c.args.course.now (record { store = c.step.new.store; script = c.step.new.self; checks = c.args.course.now.checks }) c.args.expr.now s e c.in-Ok.effect standing is gives in
    go s e d.0 d.1 d.2 d.3)
