use Rattle.qv_solve_offer.specs.Asking.{IsBase}
use Rattle.qv_solve_offer.proofs.shared.assume.Given as goal

abbrev pub invariant-formulas : goal.invariant-formulas
invariant-formulas l = IsBase l.store l.base
