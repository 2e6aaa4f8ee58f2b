use Rattle.qv_circuits_laws.proofs.Listing.{formula-walks}
use Rattle.qv_circuits_laws.proofs.clauses.nodes_are_walked.Goals as goal

pub returns : goal.returns
returns _ b t free = formula-walks b t free
