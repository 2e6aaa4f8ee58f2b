-- the clauses of the steps so far
use Rattle.qv_closed.proofs.LaidSteps.{IsLaying}
use Rattle.qv_closed.proofs.laying.lay.Given as goal

abbrev pub invariant-laid : goal.invariant-laid
invariant-laid l = IsLaying l.initial.core l.steps l.step-index l.next l.core
