-- the first terms stand so deep
use Rattle.std.proofs.Common.{◌≡◌, ℕ, List, max, take, length}
use Rattle.qv_words.specs.Tree.{Tree}
use Rattle.qv_store.specs.Walks.{named}
use Rattle.qv_elab_macros.specs.PassDown.{peak, peak_at}
use Rattle.qv_elab_macros.proofs.standing.raise_all.Given as goal

abbrev pub invariant-each : goal.invariant-each
invariant-each l = record {
  len : length l.below ≡ length l.fn.below;
  raised : (trees : List Tree) (k : ℕ) → peak k (named trees l.walk) l.below ≡ max (peak k (named trees l.walk) l.fn.below) (peak_at k (named trees (take l.id-index l.ids)) l.fn.depth);
}
