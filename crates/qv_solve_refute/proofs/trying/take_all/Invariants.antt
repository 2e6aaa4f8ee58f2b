-- the steps so far
use Rattle.qv_solve_refute.proofs.Tried.{IsTrying}
use Rattle.qv_solve_refute.proofs.trying.take_all.Given as goal

abbrev pub invariant-steps : goal.invariant-steps
invariant-steps l = IsTrying l.initial.checker l.steps l.step-index l.checker
