use Rattle.std.proofs.Common.{refl, sym, subst, arith}
use Rattle.qv_script_defs.specs.declared.faults.ScriptKind.TheVariants.{LevelLimit}
use Rattle.qv_script_defs.specs.State.{pushed}
use Rattle.qv_script_defs.specs.Moves.{Quiet, push}
use Rattle.qv_script_stack.specs.Held.{Held, IsScriptIn}
use Rattle.qv_script_stack.proofs.Holding.{held-pushed, levels-held}
use Rattle.qv_script_stack.proofs.Stepping.{settles-fault, settles-short}
use Rattle.qv_script_plain.proofs.Plain.{push-over, push-within}
use Rattle.qv_script_plain.proofs.simple.push.Goals as goal

pub returns-then-saturating_add-gt-LEVEL_LIMIT-clause-step : goal.returns-then-saturating_add-gt-LEVEL_LIMIT-clause-step
returns-then-saturating_add-gt-LEVEL_LIMIT-clause-step c = λ trees s h.
    let open_ = (levels-held trees c.args.stack.now s h).0 in
    let same = c.levels.ensures in
    settles-fault trees c.args.stack.now (push c.args.place s c.args.count) c.args.place LevelLimit c.fault_at.result c.fault_at.ensures (push-over c.args.place s c.args.count (omega (arith, open_, same)))

pub returns-clause-step : goal.returns-clause-step
returns-clause-step c = λ trees s h.
    let open_ = (levels-held trees c.args.stack.now s h).0 in
    let same = c.levels.ensures in (
      pushed c.args.count s,
      Quiet,
      push-within c.args.place s c.args.count (omega (arith, open_, same)),
      subst (λ (k : Held). IsScriptIn trees k (pushed c.args.count s)) (sym c.in_ok-open_levels.ensures.ok) (held-pushed trees c.args.stack.now s c.args.count h),
      refl,
    )

pub returns-in_err-open_levels-clause-step : goal.returns-in_err-open_levels-clause-step
returns-in_err-open_levels-clause-step c = λ trees s h.
    let open_ = (levels-held trees c.args.stack.now s h).0 in
    let same = c.levels.ensures in
    settles-short trees c.open_levels.new.self (push c.args.place s c.args.count) _ c.from_residual.result
    (push-within c.args.place s c.args.count (omega (arith, open_, same))) c.from_residual.ensures.1
