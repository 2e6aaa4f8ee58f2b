use Rattle.qv_circuits_laws.proofs.Listing.{formulas-append, each-append}
use Rattle.qv_circuits_laws.proofs.clauses.lists_go_on.Goals as goal

pub returns : goal.returns
returns _ b ts more = (formulas-append b ts more, each-append b ts more)
