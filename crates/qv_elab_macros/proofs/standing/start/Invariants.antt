-- the first terms stand so deep
use Rattle.std.proofs.Common.{◌≡◌, ℕ, take, length}
use Rattle.qv_store.specs.Walks.{named, IsWalk}
use Rattle.qv_elab_macros.specs.DepthUnder.{depth_under}
use Rattle.qv_elab_macros.specs.PassDown.{peak}
use Rattle.qv_elab_macros.proofs.standing.start.Given as goal

abbrev pub invariant-checks : goal.invariant-checks
invariant-checks l = record {
  walk : IsWalk l.store l.walk;
  len : length l.below.items ≡ length l.walk;
  peaks : (k : ℕ) → peak k (named l.store l.walk) l.below.items ≡ depth_under l.store k (take l.check-index l.checks);
}
