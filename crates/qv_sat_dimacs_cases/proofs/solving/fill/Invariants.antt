use Rattle.qv_sat_dimacs_cases.specs.Alike.{AreAlike}
use Rattle.qv_sat_dimacs_cases.proofs.solving.fill.Given as goal

abbrev pub invariant-loop-lits : goal.invariant-loop-lits
invariant-loop-lits l = AreAlike l.core l.list l.next
