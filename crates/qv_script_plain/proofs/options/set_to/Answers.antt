use Rattle.std.proofs.Common.{Some, sym, subst}
use Rattle.qv_script_defs.specs.declared.settings.Setting.{Setting}
use Rattle.qv_script_defs.specs.Moves.{set_to}
use Rattle.qv_script_stack.specs.Steps.{Settles}
use Rattle.qv_script_plain.proofs.options.set_to.Goals as goal

pub returns-in-Success-clause-step : goal.returns-in-Success-clause-step
returns-in-Success-clause-step c = λ trees s e h p.
    subst (λ (o : Setting). Settles trees c.set_success.new.stack (set_to c.args.place s c.args.key.now e (Some o)) c.set_success.result) (sym c.in-Success.is) (c.set_success.ensures.step trees s e h p)

pub returns-in-Global-clause-step : goal.returns-in-Global-clause-step
returns-in-Global-clause-step c = λ trees s e h p.
    subst (λ (o : Setting). Settles trees c.set_global.new.stack (set_to c.args.place s c.args.key.now e (Some o)) c.set_global.result) (sym c.in-Global.is) (c.set_global.ensures.step trees s e h p)

pub returns-in-Truth-clause-step : goal.returns-in-Truth-clause-step
returns-in-Truth-clause-step c = λ trees s e h p.
    subst (λ (o : Setting). Settles trees c.set_truth.new.stack (set_to c.args.place s c.args.key.now e (Some o)) c.set_truth.result) (sym c.in-Truth.is) (c.set_truth.ensures.step trees s e h p)

pub returns-in-Numeral-clause-step : goal.returns-in-Numeral-clause-step
returns-in-Numeral-clause-step c = λ trees s e h p.
    subst (λ (o : Setting). Settles trees c.set_numeral.new.stack (set_to c.args.place s c.args.key.now e (Some o)) c.set_numeral.result) (sym c.in-Numeral.is) (c.set_numeral.ensures.step trees s e h p)

pub returns-in-Answers-clause-step : goal.returns-in-Answers-clause-step
returns-in-Answers-clause-step c = λ trees s e h p.
    subst (λ (o : Setting). Settles trees c.set_output.new.stack (set_to c.args.place s c.args.key.now e (Some o)) c.set_output.result) (sym c.in-Answers.is) (c.set_output.ensures.step trees s e h p)

pub returns-in-Diagnostics-clause-step : goal.returns-in-Diagnostics-clause-step
returns-in-Diagnostics-clause-step c = λ trees s e h p.
    subst (λ (o : Setting). Settles trees c.set_diagnostics.new.stack (set_to c.args.place s c.args.key.now e (Some o)) c.set_diagnostics.result) (sym c.in-Diagnostics.is) (c.set_diagnostics.ensures.step trees s e h p)

pub returns-in-Foreign-clause-step : goal.returns-in-Foreign-clause-step
returns-in-Foreign-clause-step c = λ trees s e h p.
    subst (λ (o : Setting). Settles trees c.keep.new.stack (set_to c.args.place s c.args.key.now e (Some o)) c.keep.result) (sym c.in-Foreign.is) (c.keep.ensures.step trees s e h p)
