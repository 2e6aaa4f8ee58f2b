use Rattle.std.proofs.Common.{◌≡◌, Some, Ok, sym, ap, ◌∙◌}
use Rattle.std.specs.Prelude.{option_map}
use Rattle.qv_script_defs.specs.Parts.{string_of}
use Rattle.qv_script_defs.specs.Texts.{line}
use Rattle.qv_script_defs.specs.Moves.{Text}
use Rattle.qv_script_defs.specs.Commands.{Echo, step}
use Rattle.qv_script_stack.proofs.Stepping.{one-part, shaped-as, settles-short}
use Rattle.qv_script_plain.proofs.simple.echo.Goals as goal

pub returns-in_err-line-in-Some-clause-step : goal.returns-in_err-line-in-Some-clause-step
returns-in_err-line-in-Some-clause-step c = λ trees s es h parts.
    let one = one-part c.args.expr.now c.args.e es parts in
    let text : string_of one.0 ≡ Some c.in-Some.text.now = sym (c.string_at.ensures one.0 one.2) ∙ ap (option_map (λ n. n.now)) c.in-Some.is in
    let given = ap (λ xs. step Echo c.args.place xs s) one.1 ∙ shaped-as c.args.place (string_of one.0) c.in-Some.text.now (λ n. Ok (s, Text (line n))) text in
    settles-short trees c.args.stack.now (step Echo c.args.place es s) _ c.from_residual.result given c.from_residual.ensures.1
