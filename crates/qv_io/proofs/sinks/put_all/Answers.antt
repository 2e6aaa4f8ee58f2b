use Rattle.std.proofs.Common.{arith}
use Rattle.std.proofs.lemmas.Grind.{common_steps}
use Rattle.qv_io.proofs.SinkLemmas.{Appends-take}
use Rattle.qv_io.proofs.sinks.put_all.Goals as goal

pub loop-done-preserved : goal.loop-done-preserved
loop-done-preserved g c =
    let written = c.in_ok-done.ensures.writes in
    record {
      within = grind (arith, common_steps, written.within);
      taken = Appends-take _ _ _ _ _ _ _ (grind (arith, common_steps)) c.loop-done.invariant.taken written.appends;
      count = omega (arith, c.loop-done.invariant.count, c.write.ensures.count);
    }
