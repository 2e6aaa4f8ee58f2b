use Rattle.qv_circuits_laws.proofs.ShiftLaws.{shift-laws}
use Rattle.qv_circuits_laws.proofs.circuits.right_shifts_shift.Goals as goal

pub returns : goal.returns
returns _ v next a b one h = shift-laws.right v next a b one h
