-- the greatest so far
use Rattle.std.proofs.Common.{◌≡◌, take}
use Rattle.qv_check_clauses.specs.Clauses.{greatest_in}
use Rattle.qv_check_clauses.proofs.dimacs.greatest_in.Given as goal

abbrev pub invariant-literals : goal.invariant-literals
invariant-literals l = l.greatest ≡ greatest_in (take l.lit-index l.lits)
