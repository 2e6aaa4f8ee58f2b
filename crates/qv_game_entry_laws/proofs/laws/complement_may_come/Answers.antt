use Rattle.qv_game_entry_laws.proofs.Complement.{complement-may-come}
use Rattle.qv_game_entry_laws.proofs.laws.complement_may_come.Goals as goal

pub returns : goal.returns
returns _ = complement-may-come
