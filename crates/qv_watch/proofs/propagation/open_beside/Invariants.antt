use Rattle.std.proofs.Common.{◌≡◌, ℕ, ◌<◌, true, false, Some, ◌⊎◌}
use Rattle.std.specs.List.{slice_get}
use Rattle.qv_cnf.specs.Literal.{Literal}
use Rattle.qv_cnf.specs.Refutation.{among}
use Rattle.qv_watch.specs.Entries.{value_of}
use Rattle.qv_watch.proofs.propagation.open_beside.Given as goal

abbrev pub invariant-loop-lit : goal.invariant-loop-lit
invariant-loop-lit l = record {
  each : (j : ℕ) (x : Literal) → j < l.lit-index → slice_get l.lits j ≡ Some x → (x ≡ l.other) ⊎ (value_of l.values.entries x ≡ Some false);
  has : l.has ≡ true → among l.lits l.other ≡ true;
  lacks : l.has ≡ false → (j : ℕ) (x : Literal) → j < l.lit-index → slice_get l.lits j ≡ Some x → value_of l.values.entries x ≡ Some false;
}
