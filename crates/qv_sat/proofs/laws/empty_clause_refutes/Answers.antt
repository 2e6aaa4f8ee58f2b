use Rattle.qv_sat.proofs.Accepting.{IsRefuted-from_empty}
use Rattle.qv_sat.proofs.laws.empty_clause_refutes.Goals as goal

pub returns : goal.returns
returns c = IsRefuted-from_empty
