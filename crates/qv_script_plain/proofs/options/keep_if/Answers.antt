use Rattle.std.proofs.Common.{Bool, sym, ap, subst}
use Rattle.qv_script_stack.specs.Steps.{Settles}
use Rattle.qv_script_stack.proofs.Stepping.{settles-short}
use Rattle.qv_script_plain.specs.Told.{channelled}
use Rattle.qv_script_plain.proofs.options.keep_if.Goals as goal

pub returns-clause-step : goal.returns-clause-step
returns-clause-step c = λ trees s e h p.
    subst (λ (b : Bool). Settles trees c.keep.new.stack (channelled b c.args.key.now e s) c.keep.result) (sym c.if-not-supported.false) (c.keep.ensures.step trees s e h p)

pub returns-in_err-unsupported-clause-step : goal.returns-in_err-unsupported-clause-step
returns-in_err-unsupported-clause-step c = λ trees s e h p.
    settles-short trees c.args.stack.now (channelled c.args.supported c.args.key.now e s) _ c.from_residual.result
    (ap (λ b. channelled b c.args.key.now e s) c.if-not-supported.true) c.from_residual.ensures.1
