use Rattle.qv_sorts.specs.declared.operators.TheConstants.{OPERATORS}
use Rattle.qv_sorts.proofs.Distinct.{first_of-named}
use Rattle.qv_sorts.proofs.operators.plain_named.Goals as goal

pub returns-clause-found : goal.returns-clause-found
returns-clause-found c = rw c.first_named.ensures (first_of-named c.args.name.now OPERATORS)
