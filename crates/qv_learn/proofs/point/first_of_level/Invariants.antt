use Rattle.std.proofs.Common.{◌≢◌, All, take}
use Rattle.qv_learn.specs.Learning.{level_at}
use Rattle.qv_learn.proofs.point.first_of_level.Given as goal

-- none so far is of the level
abbrev pub invariant-loop-lit : goal.invariant-loop-lit
invariant-loop-lit l = All (λ m. level_at l.trail.entries m ≢ l.level) (take l.lit-index l.lits)
