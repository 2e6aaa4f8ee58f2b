use Rattle.std.proofs.Common.{length}
use Rattle.qv_store.specs.Stores.{AreShared, Grows}
use Rattle.qv_rewrite.specs.Steps.{AreSwept}
use Rattle.qv_rewrite.proofs.Waiting.{IsDown, work}
use Rattle.qv_rewrite.proofs.sweeping.sweep_one.Given as goal

abbrev pub invariant-down : goal.invariant-down
invariant-down l = record {
  grows : Grows l.fn.store l.store;
  shared : AreShared l.store;
  swept : AreSwept l.rewriting l.store l.made;
  down : IsDown l.fn.store l.made l.waiting.items l.id l.fn.root;
}

abbrev pub decreases-down : goal.decreases-down
decreases-down l = work l.made (length l.fn.store) l.id
