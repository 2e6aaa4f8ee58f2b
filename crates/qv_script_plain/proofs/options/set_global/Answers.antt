use Rattle.std.proofs.Common.{◌≡◌, true, false, Some, refl, sym, subst, ◌∙◌}
use Rattle.qv_script_defs.specs.declared.faults.ScriptKind.TheVariants.{Form}
use Rattle.qv_script_defs.specs.declared.settings.Setting.TheVariants as setting
use Rattle.qv_script_defs.specs.Parts.{truth_of}
use Rattle.qv_script_defs.specs.Moves.{Quiet, with_value, is_untouched, set_to}
use Rattle.qv_script_stack.specs.Held.{Held, IsScriptIn}
use Rattle.qv_script_stack.proofs.Holding.{held-global}
use Rattle.qv_script_stack.proofs.Stepping.{settles-fault, settles-short}
use Rattle.qv_script_plain.proofs.Plain.{global-done, global-late, untouched-held}
use Rattle.qv_script_plain.proofs.options.set_global.Goals as goal

pub returns-then-not-is_untouched-clause-step : goal.returns-then-not-is_untouched-clause-step
returns-then-not-is_untouched-clause-step c = λ trees s e h p.
    let b = c.in-Some.value in
    let truth : truth_of e ≡ Some b = sym (c.truth_at.ensures e p) ∙ c.in-Some.is in
    let late : is_untouched s ≡ false = sym (untouched-held trees c.args.stack.now s h) ∙ sym c.is_untouched.ensures ∙ c.if-not-is_untouched.true in
    settles-fault trees c.args.stack.now (set_to c.args.place s c.args.key.now e (Some setting.Global)) c.args.place Form c.fault_at-then-not-is_untouched.result c.fault_at-then-not-is_untouched.ensures (global-late c.args.place s c.args.key.now e b truth late)

pub returns-clause-step : goal.returns-clause-step
returns-clause-step c = λ trees s e h p.
    let b = c.in-Some.value in
    let now = with_value c.args.key.now e s in
    let truth : truth_of e ≡ Some b = sym (c.truth_at.ensures e p) ∙ c.in-Some.is in
    let first : is_untouched s ≡ true = sym (untouched-held trees c.args.stack.now s h) ∙ sym c.is_untouched.ensures ∙ c.if-not-is_untouched.false in (
      record now { global = b },
      Quiet,
      global-done c.args.place s c.args.key.now e b truth first,
      subst (λ (k : Held). IsScriptIn trees k (record now { global = b })) (sym c.set_global.ensures) (held-global trees b c.choose.new.stack now (c.in_ok-choose.ensures.ok trees s e h p)),
      refl,
    )

pub returns-in_err-choose-clause-step : goal.returns-in_err-choose-clause-step
returns-in_err-choose-clause-step c = λ trees s e h p.
    let b = c.in-Some.value in
    let truth : truth_of e ≡ Some b = sym (c.truth_at.ensures e p) ∙ c.in-Some.is in
    let first : is_untouched s ≡ true = sym (untouched-held trees c.args.stack.now s h) ∙ sym c.is_untouched.ensures ∙ c.if-not-is_untouched.false in
    settles-short trees c.choose.new.stack (set_to c.args.place s c.args.key.now e (Some setting.Global)) _ c.from_residual.result
    (global-done c.args.place s c.args.key.now e b truth first) c.from_residual.ensures.1
