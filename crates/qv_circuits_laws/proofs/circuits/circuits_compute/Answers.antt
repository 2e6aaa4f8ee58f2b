use Rattle.qv_circuits_laws.proofs.Computing.{circuit-theorem}
use Rattle.qv_circuits_laws.proofs.ShiftLaws.{shift-laws}
use Rattle.qv_circuits_laws.proofs.circuits.circuits_compute.Goals as goal

pub returns : goal.returns
returns _ o sorts s args next v one lawful rank sized ev = circuit-theorem shift-laws o sorts s args next v one lawful rank sized ev
