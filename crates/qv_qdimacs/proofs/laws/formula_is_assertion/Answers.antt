use Rattle.qv_qdimacs.proofs.Closed.{file-assertion, file-sorts}
use Rattle.qv_qdimacs.proofs.laws.formula_is_assertion.Goals as goal

pub returns : goal.returns
returns c = λ prefix clauses. (file-assertion prefix clauses, file-sorts prefix clauses)
