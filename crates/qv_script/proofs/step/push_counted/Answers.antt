use Rattle.std.proofs.Common.{ℕ, Err, sym, ap, subst, ◌∙◌}
use Rattle.std.specs.Prelude.{Result}
use Rattle.std.proofs.lemmas.Result.{err_from_is_err_and}
use Rattle.qv_elab_defs.specs.Faults.{◌>>=◌}
use Rattle.qv_script_defs.specs.declared.effects.Effect.{Effect as Done}
use Rattle.qv_script_defs.specs.declared.faults.ScriptFault.{ScriptFault}
use Rattle.qv_script_defs.specs.Faults.{Fault}
use Rattle.qv_script_defs.specs.Parts.{count_of}
use Rattle.qv_script_defs.specs.Moves.{Move, push}
use Rattle.qv_script_defs.specs.Commands.{Push, step}
use Rattle.qv_script_stack.specs.Steps.{Settles}
use Rattle.qv_script.proofs.Calling.{counted-as, uncounted}
use Rattle.qv_script.proofs.step.push_counted.Goals as goal

pub returns-in_err-count-clause-step : goal.returns-in_err-count-clause-step
returns-in_err-count-clause-step c = λ trees s es h parts.
    let a = c.args in
    let left = err_from_is_err_and c.from_residual.result c.from_residual.ensures.1 in
    subst (λ (r : Result Done ScriptFault). Settles trees a.stack.now (step Push a.place es s) r) (sym (left.1 ∙ ap Err left.2))
    (uncounted trees a.stack.now (count_of a.place es) (λ n. push a.place s n) c.in_err-count.field-0.0 (sym c.in_err-count.was ∙ c.count_of.ensures es parts))

pub returns-clause-step : goal.returns-clause-step
returns-clause-step c = λ trees s es h parts.
    let a = c.args in
    let counted = counted-as (count_of a.place es) c.in_ok-count.count (sym c.in_ok-count.was ∙ c.count_of.ensures es parts) in
    subst (λ (m : Move). Settles trees c.push.new.stack m c.push.result) (sym (ap (λ (r : Result ℕ Fault). r >>= λ n. push a.place s n) counted)) (c.push.ensures.step trees s h)
