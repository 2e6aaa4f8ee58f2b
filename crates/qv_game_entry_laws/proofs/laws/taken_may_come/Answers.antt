use Rattle.qv_game_entry_laws.proofs.Taken.{taken-may_come}
use Rattle.qv_game_entry_laws.proofs.laws.taken_may_come.Goals as goal

pub returns : goal.returns
returns _ = taken-may_come
