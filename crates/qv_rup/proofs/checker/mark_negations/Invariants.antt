use Rattle.std.proofs.Common.{◌≡◌, ◌≤◌, map, drop, length}
use Rattle.qv_cnf.specs.Literal.{negated}
use Rattle.qv_rup.proofs.checker.mark_negations.Given as goal

-- the negations of the literals from here on are marked
abbrev pub invariant-loop-left : goal.invariant-loop-left
invariant-loop-left l = record { within : l.left ≤ length l.lits; marked : l.marks ≡ map negated (drop l.left l.lits) }

abbrev pub decreases-loop-left : goal.decreases-loop-left
decreases-loop-left l = l.left
