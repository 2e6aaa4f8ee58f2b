use Rattle.std.proofs.Common.{take}
use Rattle.qv_store.specs.Stores.{AreShared, Grows}
use Rattle.qv_rewrite.specs.Steps.{AreSwept}
use Rattle.qv_rewrite.proofs.Waiting.{AreDone}
use Rattle.qv_rewrite.proofs.sweeping.sweep.Given as goal

abbrev pub invariant-loop-id : goal.invariant-loop-id
invariant-loop-id l = record {
  grows : Grows l.fn.store l.store;
  shared : AreShared l.store;
  swept : AreSwept l.rewriting l.store l.made;
  done : AreDone l.rewriting l.fn.store l.store (take l.id-index l.list) l.ids.items;
}
