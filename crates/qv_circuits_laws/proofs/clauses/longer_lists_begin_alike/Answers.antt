use Rattle.qv_circuits_laws.proofs.Listing.{cnf-longer}
use Rattle.qv_circuits_laws.proofs.clauses.longer_lists_begin_alike.Goals as goal

pub returns : goal.returns
returns _ formulas more = cnf-longer formulas more
