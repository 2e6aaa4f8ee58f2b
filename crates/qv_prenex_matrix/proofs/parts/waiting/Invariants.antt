-- the formulas from the place that is reached on wait
use Rattle.std.proofs.Common.{◌≡◌, ◌≤◌, length, map, drop, reverse}
use Rattle.qv_prenex_matrix.specs.Waiting.{under_plus}
use Rattle.qv_prenex_matrix.proofs.parts.waiting.Given as goal

abbrev pub invariant-formulas : goal.invariant-formulas
invariant-formulas l = record { within : l.left ≤ length l.formulas; waiting : reverse l.todo.items ≡ map under_plus (drop l.left l.formulas) }

abbrev pub decreases-formulas : goal.decreases-formulas
decreases-formulas l = l.left
