use Rattle.qv_circuits_laws.proofs.Clausing.{clauses-theorem}
use Rattle.qv_circuits_laws.proofs.Grounds.{clause-laws}
use Rattle.qv_game_entry_laws.proofs.Complement.{no-model-leaves-none}
use Rattle.qv_game_entry_laws.proofs.laws.no_model_leaves_none.Goals as goal

pub returns : goal.returns
returns _ = no-model-leaves-none (clauses-theorem clause-laws)
