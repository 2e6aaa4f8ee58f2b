use Rattle.std.proofs.Common.{◌≡◌, true, false, Some, sym, subst, ◌∙◌}
use Rattle.std.specs.Prelude.{is_some}
use Rattle.qv_elab_defs.specs.Tokens.{numeral_of}
use Rattle.qv_script_defs.specs.declared.faults.ScriptKind.TheVariants.{Form}
use Rattle.qv_script_defs.specs.declared.settings.Setting.TheVariants as setting
use Rattle.qv_script_defs.specs.Moves.{Move, set_to}
use Rattle.qv_script_stack.specs.Steps.{Settles}
use Rattle.qv_script_stack.proofs.Stepping.{settles-fault}
use Rattle.qv_script_plain.proofs.Plain.{numeral-done, numeral-unshaped}
use Rattle.qv_script_plain.proofs.options.set_numeral.Goals as goal

pub returns-then-not-is_numeral_at-clause-step : goal.returns-then-not-is_numeral_at-clause-step
returns-then-not-is_numeral_at-clause-step c = λ trees s e h p.
    let none : is_some (numeral_of e) ≡ false = sym (c.is_numeral_at.ensures e p) ∙ c.if-not-is_numeral_at.true in
    settles-fault trees c.args.stack.now (set_to c.args.place s c.args.key.now e (Some setting.Numeral)) c.args.place Form c.fault_at.result c.fault_at.ensures (numeral-unshaped c.args.place s c.args.key.now e none)

pub returns-clause-step : goal.returns-clause-step
returns-clause-step c = λ trees s e h p.
    let some : is_some (numeral_of e) ≡ true = sym (c.is_numeral_at.ensures e p) ∙ c.if-not-is_numeral_at.false in
    subst (λ (m : Move). Settles trees c.keep.new.stack m c.keep.result) (sym (numeral-done c.args.place s c.args.key.now e some)) (c.keep.ensures.step trees s e h p)
