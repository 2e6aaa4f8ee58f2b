use Rattle.qv_solve_offer.specs.Sharing.{IsShared}
use Rattle.qv_solve_cases.proofs.sharing.say_all.Given as goal

abbrev pub invariant-checks : goal.invariant-checks
invariant-checks l = IsShared l.store l.shared
