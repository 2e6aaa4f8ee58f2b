use Rattle.qv_sorts.proofs.Searching.{operators-are-found}
use Rattle.qv_sorts.proofs.laws.operators_are_found.Goals as goal

pub returns : goal.returns
returns _ = operators-are-found
