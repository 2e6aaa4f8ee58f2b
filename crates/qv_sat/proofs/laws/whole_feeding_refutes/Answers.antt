use Rattle.qv_sat.proofs.Whole.{Refutes-from_whole}
use Rattle.qv_sat.proofs.laws.whole_feeding_refutes.Goals as goal

pub returns : goal.returns
returns _ = Refutes-from_whole
