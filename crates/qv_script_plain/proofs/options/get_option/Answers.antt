use Rattle.std.proofs.Common.{◌≡◌, Some, Ok, sym, ap, ◌∙◌}
use Rattle.std.specs.Prelude.{option_map}
use Rattle.qv_elab_defs.specs.Tokens.{keyword_of}
use Rattle.qv_script_defs.specs.Settings.{option_text}
use Rattle.qv_script_defs.specs.Moves.{Text}
use Rattle.qv_script_defs.specs.Commands.{GetOption, step}
use Rattle.qv_script_stack.proofs.Stepping.{one-part, shaped-as, settles-short}
use Rattle.qv_script_plain.proofs.options.get_option.Goals as goal

pub returns-in_err-option_text-clause-step : goal.returns-in_err-option_text-clause-step
returns-in_err-option_text-clause-step c = λ trees s es h parts.
    let one = one-part c.args.expr.now c.args.k es parts in
    let key : keyword_of one.0 ≡ Some c.in-Some.key.now = sym (c.keyword_at.ensures one.0 one.2) ∙ ap (option_map (λ n. n.now)) c.in-Some.is in
    let given = ap (λ xs. step GetOption c.args.place xs s) one.1 ∙ shaped-as c.args.place (keyword_of one.0) c.in-Some.key.now (λ n. Ok (s, Text (option_text s n))) key in
    settles-short trees c.args.stack.now (step GetOption c.args.place es s) _ c.from_residual.result given c.from_residual.ensures.1
