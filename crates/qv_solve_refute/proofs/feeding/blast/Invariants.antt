-- the formulas so far
use Rattle.qv_solve_refute.proofs.Blasted.{IsBlasting}
use Rattle.qv_solve_refute.proofs.feeding.blast.Given as goal

abbrev pub invariant-blasted : goal.invariant-blasted
invariant-blasted l = IsBlasting l.store l.list l.limit l.formula-index l.blaster
