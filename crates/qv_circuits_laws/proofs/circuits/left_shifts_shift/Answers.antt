use Rattle.qv_circuits_laws.proofs.ShiftLaws.{shift-laws}
use Rattle.qv_circuits_laws.proofs.circuits.left_shifts_shift.Goals as goal

pub returns : goal.returns
returns _ v next a b one h = shift-laws.left v next a b one h
