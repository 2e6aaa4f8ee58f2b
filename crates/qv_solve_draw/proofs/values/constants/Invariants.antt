-- the values of the constants so far
use Rattle.qv_store.specs.Problems.{problem_in}
use Rattle.qv_skolem.specs.Skolems.{skolems_in}
use Rattle.qv_solve_draw.proofs.Valued.{IsValued}
use Rattle.qv_solve_draw.proofs.values.constants.Given as goal

abbrev pub invariant-constants : goal.invariant-constants
invariant-constants l = IsValued (problem_in l.store l.problem) (skolems_in l.store l.terms) l.problem.constants.items l.place l.values.items
