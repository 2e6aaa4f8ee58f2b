use Rattle.qv_solve_offer.specs.Asking.{HasRoom}
use Rattle.qv_solve_offer.proofs.base.narrow.Given as goal

abbrev pub invariant-rounds : goal.invariant-rounds
invariant-rounds l = HasRoom l.core l.tally
