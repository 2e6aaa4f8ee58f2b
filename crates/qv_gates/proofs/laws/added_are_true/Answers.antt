use Rattle.qv_gates.proofs.Following.{AddedAreTrue-from}
use Rattle.qv_gates.proofs.laws.added_are_true.Goals as goal

pub returns : goal.returns
returns c = AddedAreTrue-from c.rup_is_true.ensures
