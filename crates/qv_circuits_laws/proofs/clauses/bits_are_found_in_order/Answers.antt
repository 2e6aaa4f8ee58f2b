use Rattle.qv_circuits_laws.proofs.Listed.{bits-among, bits-in_order}
use Rattle.qv_circuits_laws.proofs.clauses.bits_are_found_in_order.Goals as goal

pub returns : goal.returns
returns _ known more t = (bits-among known t, bits-in_order known more t)
