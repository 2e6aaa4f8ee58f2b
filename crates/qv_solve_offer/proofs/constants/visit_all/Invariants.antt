use Rattle.qv_store.specs.Walks.{IsWalk}
use Rattle.qv_solve_offer.proofs.constants.visit_all.Given as goal

abbrev pub invariant-formulas : goal.invariant-formulas
invariant-formulas l = IsWalk l.store l.walk
