-- the clauses so far
use Rattle.qv_closed.proofs.Added.{IsAdding}
use Rattle.qv_closed.proofs.closing.add_all.Given as goal

abbrev pub invariant-added : goal.invariant-added
invariant-added l = IsAdding l.clauses.live l.id l.closure
