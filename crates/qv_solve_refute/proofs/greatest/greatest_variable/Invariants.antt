-- the clauses so far
use Rattle.qv_cnf.specs.Listing.{clauses_of}
use Rattle.qv_solve_refute.proofs.GreatestVariable.{IsGreatest}
use Rattle.qv_solve_refute.proofs.greatest.greatest_variable.Given as goal

abbrev pub invariant-clauses : goal.invariant-clauses
invariant-clauses l = IsGreatest (clauses_of l.clauses.live) l.id l.greatest
