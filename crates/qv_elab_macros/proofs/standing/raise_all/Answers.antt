use Rattle.std.proofs.Common.{◌<◌, length, ap, ◌∙◌}
use Rattle.qv_elab_macros.proofs.Peaks.{length-raised, raised-more, earlier-place, earlier-item}
use Rattle.qv_elab_macros.proofs.standing.raise_all.Goals as goal

pub each-preserved : goal.each-preserved
each-preserved c =
    let lt : c.position.result < length c.each.below =
    earlier-place c.args.walk.now (length c.each.below) c.id-item.result c.position.result c.position.ensures.first (earlier-item c.args.walk.now c.args.ids.now c.each.id-index c.id-item.result (length c.each.below) (length c.args.below.now) c.each.invariant.len c.requires c.each-test.true c.id-item.is) in
    record {
      len = ap length c.raise.ensures ∙ length-raised c.each.below c.position.result c.args.depth ∙ c.each.invariant.len;
      raised = λ trees k. raised-more trees k c.args.walk.now c.args.ids.now c.each.id-index c.id-item.result c.position.result c.args.depth c.args.below.now c.each.below c.raise.new.below
          (c.each.invariant.raised trees k) c.raise.ensures lt c.position.ensures.at c.each-test.true c.id-item.is;
    }
