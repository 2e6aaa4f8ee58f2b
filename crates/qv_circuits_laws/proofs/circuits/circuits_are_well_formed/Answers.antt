use Rattle.qv_circuits_laws.proofs.Formed.{circuits-formed}
use Rattle.qv_circuits_laws.proofs.circuits.circuits_are_well_formed.Goals as goal

pub returns : goal.returns
returns _ o sorts s args next low lawful rank words = circuits-formed o sorts s args next low lawful rank words
