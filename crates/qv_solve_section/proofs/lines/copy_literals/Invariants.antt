-- the literals so far
use Rattle.std.proofs.Common.{◌≡◌, take}
use Rattle.std.specs.List.{AllByRecursion}
use Rattle.qv_cnf.specs.Literal.{IsLiteral}
use Rattle.qv_solve_section.proofs.lines.copy_literals.Given as goal

abbrev pub invariant-literals : goal.invariant-literals
invariant-literals l = (l.copied.items ≡ take l.lit-index l.lits) × AllByRecursion IsLiteral (take l.lit-index l.lits)
