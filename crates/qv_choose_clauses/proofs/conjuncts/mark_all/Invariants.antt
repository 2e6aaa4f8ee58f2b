-- the terms from this number on made way for their sides
use Rattle.std.proofs.Common.{◌≡◌, ◌≤◌, length}
use Rattle.qv_store.specs.Nodes.{tree_at}
use Rattle.qv_choose_clauses.specs.Conjuncts.{AreMarks}
use Rattle.qv_choose_clauses.proofs.conjuncts.mark_all.Given as goal

abbrev pub decreases-marks : goal.decreases-marks
decreases-marks l = l.left

abbrev pub invariant-marks : goal.invariant-marks
invariant-marks l = record {
  many : length l.marks ≡ length l.walk;
  low : l.left ≤ length l.walk;
  right : AreMarks l.store (tree_at l.store l.fn.region) l.walk l.marks l.left;
}
