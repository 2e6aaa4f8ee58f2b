use Rattle.std.proofs.Common.{◌≡◌, ℕ, true, All, take}
use Rattle.qv_sat.specs.Marking.{is_marked}
use Rattle.qv_sat.proofs.failing.mark_all.Given as goal

abbrev pub invariant-loop-lit : goal.invariant-loop-lit
invariant-loop-lit l = record {
  marked : All (λ x. is_marked l.marks x.variable ≡ true) (take l.lit-index l.lits);
  kept : (v : ℕ) → is_marked l.initial.marks v ≡ true → is_marked l.marks v ≡ true;
}
