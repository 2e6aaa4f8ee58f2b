use Rattle.qv_circuits_laws.proofs.Joining.{routines-go_on}
use Rattle.qv_circuits_laws.proofs.circuits.routines_go_on.Goals as goal

pub returns : goal.returns
returns _ = routines-go_on
