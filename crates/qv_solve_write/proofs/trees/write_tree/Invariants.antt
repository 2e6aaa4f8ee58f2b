-- the lines so far
use Rattle.qv_solve_write.proofs.Written.{IsTreeing}
use Rattle.qv_solve_write.proofs.trees.write_tree.Given as goal

abbrev pub invariant-written : goal.invariant-written
invariant-written l = IsTreeing l.store l.tree l.index l.writer
