-- what was made of terms, and the way down to the term at hand
use Rattle.std.proofs.Common.{length}
use Rattle.std.specs.Prelude.{is_some}
use Rattle.qv_words.specs.Sorted.{IsSorted}
use Rattle.qv_store.specs.Nodes.{tree_at}
use Rattle.qv_store.specs.Stores.{AreShared, Grows}
use Rattle.qv_prenex_splits.specs.Rebuilt.{rebuilt}
use Rattle.qv_prenex_splits.specs.Memos.{made_in}
use Rattle.qv_prenex_splits.specs.Rebuilding.{top_in, AreRebuilt}
use Rattle.qv_prenex_splits.proofs.Waiting.{IsDown, work}
use Rattle.qv_prenex_splits.proofs.rebuilding.rebuild_one.Given as goal

abbrev pub invariant-down : goal.invariant-down
invariant-down l = record {
  grows : Grows l.fn.store l.store;
  shared : AreShared l.store;
  made : AreRebuilt (top_in l.fn.store l.change l.names) l.store l.made;
  down : IsDown (λ k. IsSorted (rebuilt (top_in l.fn.store l.change l.names) (tree_at l.fn.store k))) (λ k. is_some (made_in l.made k)) (length l.fn.store) l.waiting.items l.id l.fn.root;
}

abbrev pub decreases-down : goal.decreases-down
decreases-down l = work (λ k. is_some (made_in l.made k)) (length l.fn.store) l.id
