use Rattle.std.proofs.Common.{◌≡◌, ℕ, ◌≤◌, true, length}
use Rattle.qv_cnf.specs.Refutation.{among}
use Rattle.qv_watch.specs.Entries.{trues}
use Rattle.qv_sat.specs.Answering.{assignment}
use Rattle.qv_sat.proofs.deciding.values_of.Given as goal

abbrev pub invariant-loop-before : goal.invariant-loop-before
invariant-loop-before l = record {
  long : length l.values.items ≡ l.before;
  each : (v : ℕ) → 1 ≤ v → v ≤ l.before → assignment l.values.items v ≡ among (trues l.trail.entries) record { variable = v; positive = true };
}
