use Rattle.qv_circuits_laws.proofs.Clausing.{clauses-theorem}
use Rattle.qv_circuits_laws.proofs.Grounds.{clause-laws}
use Rattle.qv_game_entry_laws.proofs.Failed.{failed-leave-none}
use Rattle.qv_game_entry_laws.proofs.laws.failed_leave_none.Goals as goal

pub returns : goal.returns
returns _ = failed-leave-none (clauses-theorem clause-laws)
