use Rattle.std.proofs.Common.{◌≡◌, ◌≤◌, ◌++◌, map, drop, length}
use Rattle.qv_cnf.specs.Literal.{negated}
use Rattle.qv_cnf.specs.Rat.{others}
use Rattle.qv_rup.proofs.groups.mark_others.Given as goal

-- the negations of the others from here on are marked
abbrev pub invariant-marking : goal.invariant-marking
invariant-marking l = record {
  within : l.left ≤ length l.lits;
  marked : l.marks ≡ map negated (others l.pivot (drop l.left l.lits)) ++ l.initial.marks;
}

abbrev pub decreases-marking : goal.decreases-marking
decreases-marking l = l.left
