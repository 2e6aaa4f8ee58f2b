-- the lines so far
use Rattle.qv_solve_write.proofs.Taken.{IsTaking}
use Rattle.qv_solve_write.proofs.listing.list_all.Given as goal

abbrev pub invariant-taken : goal.invariant-taken
invariant-taken l = IsTaking l.fn.store l.store l.problem l.lines l.line-index l.listed
