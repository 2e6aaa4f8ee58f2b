use Rattle.qv_store.specs.Walks.{IsWalk}
use Rattle.qv_rewrite_lists.proofs.measuring.visit_all.Given as goal

abbrev pub invariant-formulas : goal.invariant-formulas
invariant-formulas l = IsWalk l.store l.walk
