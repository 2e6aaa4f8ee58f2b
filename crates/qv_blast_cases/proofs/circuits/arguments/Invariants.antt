use Rattle.std.proofs.Common.{◌≤◌, ◌+◌, ◌^◌}
use Rattle.qv_blast_cases.proofs.circuits.arguments.Given as goal

abbrev pub invariant-sorts : goal.invariant-sorts
invariant-sorts l = (1 ≤ l.next) × (l.next ≤ 2 ^ 30 + 1)
