-- no universal quantifier came
use Rattle.qv_qdimacs.proofs.Gathered.{IsLeading}
use Rattle.qv_qdimacs.proofs.outer.leading.Given as goal

abbrev pub invariant-leading : goal.invariant-leading
invariant-leading l = IsLeading l.prefix l.n
