use Rattle.std.proofs.Common.{refl}
use Rattle.qv_watch.proofs.Listed.{Grows-push}
use Rattle.qv_watch.proofs.watches.Watches.room.Goals as goal

pub loop-preserved : goal.loop-preserved
loop-preserved c = Grows-push c.args.self.now c.loop.self _ _ c.loop.invariant c.in_ok-push.ensures.items refl refl refl refl
