use Rattle.std.proofs.Common.{◌≡◌, Some, sym, ap, subst, ◌∙◌}
use Rattle.std.specs.Prelude.{Option, option_map}
use Rattle.qv_elab_defs.specs.Tokens.{keyword_of}
use Rattle.qv_script_defs.specs.declared.settings.Setting.{Setting}
use Rattle.qv_script_defs.specs.Moves.{Move, set_option, set_to}
use Rattle.qv_script_defs.specs.Commands.{SetOption, step}
use Rattle.qv_script_stack.specs.Steps.{Settles}
use Rattle.qv_script_stack.proofs.Stepping.{two-parts, shaped-as, settles-short}
use Rattle.qv_script_plain.proofs.options.set_option.Goals as goal

pub returns-in-Some-setting_named-clause-step : goal.returns-in-Some-setting_named-clause-step
returns-in-Some-setting_named-clause-step c = λ trees s es h parts.
    let two = two-parts c.args.expr.now c.args.k c.args.v es parts in
    let key : keyword_of two.0 ≡ Some c.in-Some.key.now = sym (c.keyword_at.ensures two.0 two.3) ∙ ap (option_map (λ n. n.now)) c.in-Some.is in
    let given = ap (λ xs. step SetOption c.args.place xs s) two.2 ∙ shaped-as c.args.place (keyword_of two.0) c.in-Some.key.now (λ n. set_option c.args.place s n two.1) key
    ∙ ap (λ (o : Option Setting). set_to c.args.place s c.in-Some.key.now two.1 o) (sym c.setting_named.ensures ∙ c.in-Some-setting_named.is) in
    subst (λ (m : Move). Settles trees c.set_to.new.stack m c.set_to.result) (sym given) (c.set_to.ensures.step trees s two.1 h two.4)

pub returns-in_err-unsupported-in-None-clause-step : goal.returns-in_err-unsupported-in-None-clause-step
returns-in_err-unsupported-in-None-clause-step c = λ trees s es h parts.
    let two = two-parts c.args.expr.now c.args.k c.args.v es parts in
    let key : keyword_of two.0 ≡ Some c.in-Some.key.now = sym (c.keyword_at.ensures two.0 two.3) ∙ ap (option_map (λ n. n.now)) c.in-Some.is in
    let given = ap (λ xs. step SetOption c.args.place xs s) two.2 ∙ shaped-as c.args.place (keyword_of two.0) c.in-Some.key.now (λ n. set_option c.args.place s n two.1) key
    ∙ ap (λ (o : Option Setting). set_to c.args.place s c.in-Some.key.now two.1 o) (sym c.setting_named.ensures ∙ c.in-None.is) in
    settles-short trees c.args.stack.now (step SetOption c.args.place es s) _ c.from_residual.result given c.from_residual.ensures.1
