use Rattle.std.proofs.Common.{◌≡◌, ◌≢◌, ℕ, ◌<◌, ◌≤◌, ◌^◌, ◌⊎◌, true, None, Some}
use Rattle.std.specs.List.{slice_get}
use Rattle.std.specs.Prelude.{IfSome}
use Rattle.qv_cnf.specs.Literal.{Literal}
use Rattle.qv_cnf.specs.Refutation.{among}
use Rattle.qv_watch.specs.Choosing.{level_at, rank_of}
use Rattle.qv_watch.proofs.choosing.best.Given as goal

abbrev pub invariant-loop-lit : goal.invariant-loop-lit
invariant-loop-lit l = record {
  found : IfSome l.found (λ x. (among l.lits x ≡ true) × (l.but ≢ Some x) × (l.most ≡ rank_of l.values.entries x) × (level_at l.values.entries x < 2 ^ 32));
  none : l.found ≡ None → l.most ≡ 0;
  most : (j : ℕ) (x : Literal) → j < l.lit-index → slice_get l.lits j ≡ Some x → (l.but ≡ Some x) ⊎ (rank_of l.values.entries x ≤ l.most);
}
