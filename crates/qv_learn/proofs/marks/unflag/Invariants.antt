use Rattle.std.proofs.Common.{◌≡◌, ℕ, true, false, get_or, drop}
use Rattle.qv_learn.specs.Marking.{marked}
use Rattle.qv_learn.proofs.marks.unflag.Given as goal

-- what still has a flag is among the variables that are left
abbrev pub invariant-loop-variable : goal.invariant-loop-variable
invariant-loop-variable l = (v : ℕ) → get_or l.flags v false ≡ true → marked (drop l.variable-index l.list) v ≡ true
