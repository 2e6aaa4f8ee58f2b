-- the terms so far
use Rattle.qv_solve_write.proofs.Written.{IsTerming}
use Rattle.qv_solve_write.proofs.terms.write_terms.Given as goal

abbrev pub invariant-written : goal.invariant-written
invariant-written l = IsTerming l.store l.terms l.term-index l.writer
