use Rattle.std.proofs.Common.{◌≡◌, ◌<◌, ◌+◌, ◌-◌, ◌^◌, ◌∙◌, suc, add-one, ap, sym, arith}
use Rattle.qv_words.specs.Routine.{least_log}
use Rattle.qv_circuits.proofs.Rounds.{below-power, doubled, least-more}
use Rattle.qv_circuits.proofs.shifts.stage_count.Goals as goal

pub overflow_add-count : goal.overflow_add-count
overflow_add-count c = omega (arith, below-power c.stages.count, c.stages.invariant.0)

pub stages-smaller : goal.stages-smaller
stages-smaller c =
    let less : c.stages.count < c.args.width = omega (arith, below-power c.stages.count, c.stages.invariant.0) in
    let fewer : c.args.width - (c.stages.count + 1) < c.args.width - c.stages.count = omega (arith, less) in
    fewer

pub stages-preserved : goal.stages-preserved
stages-preserved c =
    let w = c.args.width in
    let k = c.stages.count in
    let less : k < w = omega (arith, below-power k, c.stages.invariant.0) in
    let left : w - k ≡ suc (w - (k + 1)) = omega (arith, less) in
    let under : 2 ^ k < w = omega (arith, c.stages.invariant.0) in (
      omega (arith, doubled k, c.stages.invariant.0),
      omega (arith, less),
      c.stages.invariant.2 ∙ ap (λ n. least_log n k w) left ∙ least-more (w - (k + 1)) k w under ∙ ap (λ n. least_log (w - (k + 1)) n w) (sym (add-one k)),
    )
