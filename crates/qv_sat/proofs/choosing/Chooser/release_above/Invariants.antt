use Rattle.std.proofs.Common.{◌≡◌, ◌≤◌, ℕ, true, Some, length}
use Rattle.std.specs.List.{slice_get}
use Rattle.qv_sat_order.specs.Ranking.{is_held}
use Rattle.qv_watch.specs.Entries.{Entry}
use Rattle.qv_sat.proofs.choosing.Chooser.release_above.Given as goal

abbrev pub invariant-above : goal.invariant-above
invariant-above l = record {
  long : length l.self.order.held ≡ length l.fn.self.order.held;
  left : l.left ≤ length l.order;
  kept : (v : ℕ) → is_held l.fn.self.order.held v ≡ true → is_held l.self.order.held v ≡ true;
  released : (k : ℕ) (e : Entry) → l.left ≤ k → slice_get l.trail.entries k ≡ Some e → is_held l.self.order.held e.lit.variable ≡ true;
}

abbrev pub decreases-above : goal.decreases-above
decreases-above l = l.left
