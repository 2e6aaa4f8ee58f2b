-- the clauses so far
use Rattle.qv_cnf.specs.Listing.{clauses_of}
use Rattle.qv_cert_formulas.proofs.Given.{IsGiven}
use Rattle.qv_cert_formulas.proofs.refuting.give_clauses.Given as goal

abbrev pub invariant-clauses : goal.invariant-clauses
invariant-clauses l = IsGiven (clauses_of l.clauses.live) l.id l.checker
