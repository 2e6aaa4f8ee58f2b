use Rattle.std.proofs.Common.{◌≡◌, ◌^◌, refl, sym, ap, subst, ◌∙◌}
use Rattle.std.specs.Prelude.{min}
use Rattle.qv_meter.specs.Records.{Limits, AreLimits}
use Rattle.qv_meter.specs.Views.{limits_of}
use Rattle.qv_script_defs.specs.Settings.{limit_of}
use Rattle.qv_shell_answer.specs.Metered.{lesser}
use Rattle.qv_shell_command.proofs.Limiting.{capped, some-limit, lesser-limits}
use Rattle.qv_shell_command.proofs.moves.limits_at.Goals as goal

pub returns-then-most-eq0-clause-own : goal.returns-then-most-eq0-clause-own
returns-then-most-eq0-clause-own c = λ trees s h.
    let limits = limits_of c.args.limits in
    let none : min (limit_of s) (2 ^ 60) ≡ 0 = sym (c.limit-most.ensures trees s h) ∙ c.if-most-eq0.true in
    sym (ap (lesser limits) none) ∙ capped limits c.requires (limit_of s)

pub returns-clause-own : goal.returns-clause-own
returns-clause-own c = λ trees s h.
    let limits = limits_of c.args.limits in
    some-limit limits c.limit-most.result c.min-conflicts.result c.if-most-eq0.false c.min-conflicts.ensures
    ∙ ap (lesser limits) (c.limit-most.ensures trees s h) ∙ capped limits c.requires (limit_of s)

pub returns-clause-limits : goal.returns-clause-limits
returns-clause-limits c =
    let limits = limits_of c.args.limits in
    subst AreLimits (sym (some-limit limits c.limit-most.result c.min-conflicts.result c.if-most-eq0.false c.min-conflicts.ensures)) (lesser-limits limits c.requires c.limit-most.result)
