use Rattle.qv_circuits_laws.proofs.ShiftLaws.{shift-laws}
use Rattle.qv_circuits_laws.proofs.circuits.signed_shifts_shift.Goals as goal

pub returns : goal.returns
returns _ v next a b one h = shift-laws.keeps v next a b one h
