use Rattle.qv_watch.specs.Watching.{Grows}
use Rattle.qv_watch.proofs.watches.Watches.room.Given as goal

abbrev pub invariant-loop : goal.invariant-loop
invariant-loop l = Grows l.fn.self l.self
