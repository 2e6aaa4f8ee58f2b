use Rattle.std.proofs.Common.{◌≤◌, length, refl, sym, subst, arith}
use Rattle.qv_script_defs.specs.declared.faults.ScriptKind.TheVariants.{PopBelow}
use Rattle.qv_script_defs.specs.State.{popped}
use Rattle.qv_script_defs.specs.Moves.{Quiet, pop}
use Rattle.qv_script_stack.specs.Held.{Held, IsScriptIn}
use Rattle.qv_script_stack.proofs.Holding.{held-popped, levels-held}
use Rattle.qv_script_stack.proofs.Stepping.{settles-fault}
use Rattle.qv_script_plain.proofs.Plain.{pop-over, pop-within}
use Rattle.qv_script_plain.proofs.simple.pop.Goals as goal

pub returns-then-count-levels-clause-step : goal.returns-then-count-levels-clause-step
returns-then-count-levels-clause-step c = λ trees s h.
    let open_ = (levels-held trees c.args.stack.now s h).0 in
    let same = c.levels.ensures in
    settles-fault trees c.args.stack.now (pop c.args.place s c.args.count) c.args.place PopBelow c.fault_at.result c.fault_at.ensures (pop-over c.args.place s c.args.count (omega (arith, open_, same)))

pub returns-clause-step : goal.returns-clause-step
returns-clause-step c = λ trees s h.
    let open_ = (levels-held trees c.args.stack.now s h).0 in
    let same = c.levels.ensures in
    let few : c.args.count ≤ length s.opened = omega (arith, open_, same) in (
      popped c.args.count s,
      Quiet,
      pop-within c.args.place s c.args.count few,
      subst (λ (k : Held). IsScriptIn trees k (popped c.args.count s)) (sym c.close_levels.ensures) (held-popped trees c.args.stack.now s c.args.count few h),
      refl,
    )
