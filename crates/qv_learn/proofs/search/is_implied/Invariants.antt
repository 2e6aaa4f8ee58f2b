use Rattle.std.proofs.Common.{◌≡◌, ◌≢◌, ◌⊎◌, true, take}
use Rattle.qv_cnf.specs.Literal.{Literal}
use Rattle.qv_cnf.specs.Refutation.{among}
use Rattle.qv_learn.specs.Learning.{IsFalseAtZero}
use Rattle.qv_learn.specs.Marking.{marked}
use Rattle.qv_learn.proofs.search.is_implied.Given as goal

-- the literals so far needn't stand in the clause
abbrev pub invariant-loop-other : goal.invariant-loop-other
invariant-loop-other l =
    (m : Literal) → among (take l.other-index l.lits) m ≡ true → m.variable ≢ l.lit.variable → (marked l.between m.variable ≡ true) ⊎ IsFalseAtZero l.trail.entries m
