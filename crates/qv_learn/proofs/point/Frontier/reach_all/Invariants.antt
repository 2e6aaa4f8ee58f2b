use Rattle.std.proofs.Common.{take}
use Rattle.qv_learn.specs.Frontiers.{Reaches}
use Rattle.qv_learn.proofs.point.Frontier.reach_all.Given as goal

-- the literals so far are reached
abbrev pub invariant-loop-lit : goal.invariant-loop-lit
invariant-loop-lit l = Reaches l.trail (take l.lit-index l.clause) l.fn.self l.self
