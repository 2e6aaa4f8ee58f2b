use Rattle.qv_watch.specs.Watching.{CountAtMost, Grows}
use Rattle.qv_watch.proofs.watches.Watches.reserve.Given as goal

abbrev pub invariant-loop-lit : goal.invariant-loop-lit
invariant-loop-lit l = record {
  grows : Grows l.fn.self l.self;
  counts : CountAtMost l.lit-index l.fn.self.counts.items l.self.counts.items;
}
