-- the clauses so far
use Rattle.qv_closed.proofs.Fed.{IsFeeding}
use Rattle.qv_closed.proofs.feeding.add_all.Given as goal

abbrev pub invariant-fed : goal.invariant-fed
invariant-fed l = IsFeeding l.clauses.live l.id l.core
