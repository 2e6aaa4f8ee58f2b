use Rattle.std.proofs.Common.{◌≡◌, Some, sym, subst, ◌∙◌}
use Rattle.qv_script_defs.specs.Parts.{truth_of}
use Rattle.qv_script_defs.specs.Moves.{Move}
use Rattle.qv_script_stack.specs.Steps.{Settles}
use Rattle.qv_script_plain.proofs.Plain.{truth-done}
use Rattle.qv_script_plain.proofs.options.set_truth.Goals as goal

pub returns-in-Some-clause-step : goal.returns-in-Some-clause-step
returns-in-Some-clause-step c = λ trees s e h p.
    let truth : truth_of e ≡ Some c.in-Some.field-0 = sym (c.truth_at.ensures e p) ∙ c.in-Some.is in
    subst (λ (m : Move). Settles trees c.keep.new.stack m c.keep.result) (sym (truth-done c.args.place s c.args.key.now e c.in-Some.field-0 truth)) (c.keep.ensures.step trees s e h p)
