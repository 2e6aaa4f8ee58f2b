use Rattle.std.proofs.Common.{◌∷◌, [], length, ap, ◌∙◌, arith, length-append}
use Rattle.std.proofs.Common.{None}
use Rattle.qv_elab_macros.specs.PassDown.{peak}
use Rattle.qv_elab_macros.proofs.Peaks.{peak-push_none}
use Rattle.qv_elab_macros.proofs.standing.fill.Goals as goal

pub places-preserved : goal.places-preserved
places-preserved c = record {
  within = omega (arith, ap length c.in_ok-push.ensures.items, length-append c.places.depths.items (None ∷ []), c.places-test.true, c.len.ensures);
  same = λ k ts. ap (peak k ts) c.in_ok-push.ensures.items ∙ peak-push_none k ts c.places.depths.items ∙ c.places.invariant.same k ts;
}
