use Rattle.std.proofs.Common.{◌≡◌, Bool, Some, [], ◌∷◌, sym, ap, subst, ◌∙◌}
use Rattle.std.specs.Prelude.{option_map}
use Rattle.qv_script_defs.specs.Parts.{string_of}
use Rattle.qv_script_defs.specs.Settings.{standard_output}
use Rattle.qv_script_defs.specs.Moves.{Move}
use Rattle.qv_script_stack.specs.Steps.{Settles}
use Rattle.qv_script_plain.specs.Told.{channelled}
use Rattle.qv_script_plain.proofs.Plain.{channel-done}
use Rattle.qv_script_plain.proofs.options.set_output.Goals as goal

pub returns-in-Some-clause-step : goal.returns-in-Some-clause-step
returns-in-Some-clause-step c = λ trees s e h p.
    let text : string_of e ≡ Some c.in-Some.text.now = sym (c.string_at.ensures e p) ∙ ap (option_map (λ n. n.now)) c.in-Some.is in
    let given = channel-done c.args.place s c.args.key.now e (standard_output ∷ []) c.in-Some.text.now text ∙ ap (λ (b : Bool). channelled b c.args.key.now e s) (sym c.is_output.ensures) in
    subst (λ (m : Move). Settles trees c.keep_if.new.stack m c.keep_if.result) (sym given) (c.keep_if.ensures.step trees s e h p)
