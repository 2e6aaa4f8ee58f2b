use Rattle.qv_circuits_laws.proofs.Growing.{one-more}
use Rattle.qv_circuits_laws.proofs.clauses.one_more_formula.Goals as goal

pub returns : goal.returns
returns _ formulas f = one-more formulas f
