use Rattle.std.proofs.Common.{◌≡◌}
use Rattle.qv_words.specs.Clauses.{variables_from}
use Rattle.qv_circuits.specs.Adding.{lits_of}
use Rattle.qv_blast.proofs.building.variables.Given as goal

-- the variables so far
abbrev pub invariant-variables : goal.invariant-variables
invariant-variables l = lits_of l.bits.items ≡ variables_from l.first l.i
