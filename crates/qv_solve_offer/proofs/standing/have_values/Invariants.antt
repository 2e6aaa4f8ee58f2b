use Rattle.qv_solve_offer.proofs.Valued.{AreValued}
use Rattle.qv_solve_offer.proofs.standing.have_values.Given as goal

abbrev pub invariant-terms : goal.invariant-terms
invariant-terms l = AreValued l.consts l.store l.id-items l.id-index
