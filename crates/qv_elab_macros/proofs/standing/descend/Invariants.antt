-- what stands below the terms that are left, or was noted
use Rattle.std.proofs.Common.{◌≡◌, ◌≤◌, ◌<◌, ℕ, max, get_or, length}
use Rattle.qv_store.specs.Walks.{named}
use Rattle.qv_elab_macros.specs.PassDown.{peak}
use Rattle.qv_elab_macros.proofs.standing.descend.Given as goal

abbrev pub invariant-terms : goal.invariant-terms
invariant-terms l = record {
  within : length l.below.items ≤ length l.walk;
  count : length l.depths ≡ length l.fn.depths;
  depths : (k : ℕ) → k < length l.fn.depths → max (get_or l.depths k 0) (peak k (named l.store l.walk) l.below.items) ≡ max (get_or l.fn.depths k 0) (peak k (named l.store l.walk) l.initial.below.items);
}

abbrev pub decreases-terms : goal.decreases-terms
decreases-terms l = length l.below.items
