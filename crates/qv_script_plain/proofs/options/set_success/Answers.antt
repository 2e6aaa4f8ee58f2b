use Rattle.std.proofs.Common.{◌≡◌, Some, refl, sym, subst, ◌∙◌}
use Rattle.qv_script_defs.specs.Parts.{truth_of}
use Rattle.qv_script_defs.specs.declared.settings.Setting.TheVariants as setting
use Rattle.qv_script_defs.specs.Moves.{Quiet, with_value, set_to}
use Rattle.qv_script_stack.specs.Held.{Held, IsScriptIn}
use Rattle.qv_script_stack.proofs.Holding.{held-success}
use Rattle.qv_script_stack.proofs.Stepping.{settles-short}
use Rattle.qv_script_plain.proofs.Plain.{success-done}
use Rattle.qv_script_plain.proofs.options.set_success.Goals as goal

pub returns-clause-step : goal.returns-clause-step
returns-clause-step c = λ trees s e h p.
    let b = c.in-Some.value in
    let now = with_value c.args.key.now e s in
    let truth : truth_of e ≡ Some b = sym (c.truth_at.ensures e p) ∙ c.in-Some.is in (
      record now { success = b },
      Quiet,
      success-done c.args.place s c.args.key.now e b truth,
      subst (λ (k : Held). IsScriptIn trees k (record now { success = b })) (sym c.set_success.ensures) (held-success trees b c.choose.new.stack now (c.in_ok-choose.ensures.ok trees s e h p)),
      refl,
    )

pub returns-in_err-choose-clause-step : goal.returns-in_err-choose-clause-step
returns-in_err-choose-clause-step c = λ trees s e h p.
    let b = c.in-Some.value in
    let truth : truth_of e ≡ Some b = sym (c.truth_at.ensures e p) ∙ c.in-Some.is in
    settles-short trees c.choose.new.stack (set_to c.args.place s c.args.key.now e (Some setting.Success)) _ c.from_residual.result
    (success-done c.args.place s c.args.key.now e b truth) c.from_residual.ensures.1
